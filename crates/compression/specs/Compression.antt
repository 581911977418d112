-- The four resistances of the compression side, in newtons (rules 5.1 to 5.5 and 5.9). yc and yb stand for `steel.column`
-- and `steel.beam`. Assumes nothing.
use Rattle.std.specs.Prelude.{ℕ, ◌+◌, ◌*◌, ◌/◌, ◌^◌, ◌≤◌, cond, ltb}
use Rattle.arithmetic.specs.Greatest.{Greatest, greatest}
use Rattle.joint.specs.declared.Column.{Column}
use Rattle.joint.specs.declared.Beam.{Beam}
use Rattle.joint.specs.declared.Plate.{Plate}
use Rattle.joint.specs.declared.Welds.{Welds}
use Rattle.strength.specs.declared.SteelStrengths.{SteelStrengths}
use Rattle.compression.specs.declared.Resistances.{Resistances}

-- rule 5.1: b
unfoldable pub bearing_length : Column → Beam → Plate → Welds → ℕ
bearing_length column beam plate welds =
    beam.flange + 2 * welds.flange + 2 * plate.thickness + 5 * (column.flange + column.radius)

-- rule 5.2
unfoldable pub beam_flange : (yb : ℕ) → Beam → ℕ
beam_flange yb beam = 7 * yb * beam.flange * beam.width / 500

-- rule 5.3
unfoldable pub web_bearing : (b yc : ℕ) → Column → ℕ
web_bearing b yc column = b * column.web * yc / 100

-- what 16×dc×w² may come to
unfoldable pub buckling_limit : (b yc : ℕ) → Column → ℕ
buckling_limit b yc column = 275 * b * yc * column.web ^ 4

-- rule 5.4: the greatest w with 16×dc×w² at most that is web buckling, but for a near column end (`reduced_near_end`)
abbrev pub IsWebBuckling : (b yc : ℕ) → Column → ℕ → Type 0
IsWebBuckling b yc column = Greatest (λ (w : ℕ). 16 * column.clear * (w * w) ≤ buckling_limit b yc column)

-- and that number, found by search; proofs/Buckling.antt shows that it is, and that nothing else is
unfoldable pub web_buckling : (b yc : ℕ) → Column → ℕ
web_buckling b yc column = greatest 32 (λ (w : ℕ). 16 * column.clear * (w * w)) (buckling_limit b yc column)

-- rule 5.9: near a column end, where 10×z is below 7×dc, the whole w is reduced; 0.7×dc itself is never rounded
unfoldable pub reduced_near_end : (w : ℕ) → Column → ℕ
reduced_near_end w column =
    let z = column.end_distance in
    let dc = column.clear in
    cond (ltb (10 * z) (7 * dc)) (w * (10 * z + 7 * dc) / (14 * dc)) w

-- rule 5.5
unfoldable pub panel_shear : (yc : ℕ) → Column → ℕ
panel_shear yc column = 3 * yc * column.web * column.depth / 500

unfoldable pub resistances_of : SteelStrengths → Column → Beam → Plate → Welds → Resistances
resistances_of steel column beam plate welds =
    let b = bearing_length column beam plate welds in
    record {
      flange = beam_flange steel.beam beam;
      bearing = web_bearing b steel.column column;
      buckling = reduced_near_end (web_buckling b steel.column column) column;
      panel = panel_shear steel.column column;
    }
