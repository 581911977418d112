-- What one face of the column comes to, from the crates below: limits, governing check, cap, row forces, moment and verdicts. A face is
-- worked with the column that it stands on and the figures of its bolts; and panel shear counts in its cap, or not (rule 5.10). Assumes
-- nothing.
use Rattle.std.specs.Prelude.{ℕ, Bool, cond, List, take, ℤ, Option, None, Some}
use Rattle.bolttable.specs.Area.{area_number}
use Rattle.joint.specs.declared.Bolts.{Bolts}
use Rattle.joint.specs.declared.Column.{Column}
use Rattle.joint.specs.declared.Face.{Face}
use Rattle.strength.specs.Bolt.{bolt_strengths}
use Rattle.strength.specs.Steel.{steel_strengths}
use Rattle.strength.specs.Thickness.{both_too_thick}
use Rattle.strength.specs.declared.SteelStrengths.{SteelStrengths}
use Rattle.strength.specs.declared.BoltStrengths.{BoltStrengths}
use Rattle.sharing.specs.Groups.{Table, with_cap}
use Rattle.sharing.specs.Sharing.{shared, moment}
use Rattle.sharing.specs.Triangle.{Triangle, limits_in}
use Rattle.tension.specs.Limits.{group_limit}
use Rattle.compression.specs.Compression.{resistances_of}
use Rattle.governing.specs.Governing.{force_of, governing_check}
use Rattle.governing.specs.Cap.{tension_cap, newtons_of}
use Rattle.governing.specs.declared.CompressionCheck.{CompressionCheck}
use Rattle.verdicts.specs.Bending.{carries}
use Rattle.verdicts.specs.Bolts.{bolts_pass}
use Rattle.verdicts.specs.Welds.{flange_weld_passes, web_weld_passes}
use Rattle.outcome.specs.declared.Verdicts.{Verdicts}

-- the figures of bolts, by the area that the table in force lists for them
abbrev pub bolt_of : Bolts → Option ℕ → BoltStrengths
bolt_of bolts area = bolt_strengths bolts (area_number area)

abbrev pub rows_of : Face → ℕ
rows_of face = face.rows

-- the levers of the rows
abbrev pub levers_of : Face → List ℕ
levers_of face = take (rows_of face) face.levers

-- the limit of each group, before any lowering
abbrev pub limit_of : Column → BoltStrengths → Face → Table
limit_of column bolt face = group_limit column face bolt.pair_tension

abbrev pub steel_of : Column → Face → SteelStrengths
steel_of column face = steel_strengths column face.beam face.plate

-- rules 5.6 and 5.10
unfoldable pub governing_of : (panel_counts : Bool) → Column → Face → CompressionCheck
governing_of panel_counts column face =
    governing_check panel_counts (resistances_of (steel_of column face) column face.beam face.plate face.welds)

-- rule 5.7
unfoldable pub cap_of : (panel_counts : Bool) → Column → Face → ℤ
unfolding governing_of
cap_of panel_counts column face = tension_cap face.loads (force_of (governing_of panel_counts column face))

-- rule 6.5: the triangle of a face's rows, which hangs from the first row under the beam flange
abbrev pub face_triangle : Face → Triangle
face_triangle face = record { levers = levers_of face; reference = face.extended }

-- rule 6.5: the triangle that the rows go by, where flange and plate are both too thick for the bolts
unfoldable pub triangle_on : Column → BoltStrengths → Face → Option Triangle
triangle_on column bolt face =
    cond (both_too_thick column face.plate (steel_of column face) bolt)
    (Some (face_triangle face))
    None

-- rules 6.3 and 6.5: the forces under the limits of the groups, the cap and the triangle's limits
unfoldable pub forces_of : (panel_counts : Bool) → Column → BoltStrengths → Face → List ℕ
unfolding cap_of
forces_of panel_counts column bolt face =
    let limit = with_cap (limit_of column bolt face) (rows_of face) (newtons_of (cap_of panel_counts column face)) in
    shared (limits_in (triangle_on column bolt face) limit (rows_of face)) (rows_of face)

-- Z of a list of forces
abbrev pub moment_of : Face → List ℕ → ℕ
moment_of face forces = moment (levers_of face) forces

-- whether a list carries the design moment with the design axial force
abbrev pub carries_of : Face → List ℕ → Bool
carries_of face forces = carries face.loads face.beam (moment_of face forces)

abbrev pub verdicts_of : Column → BoltStrengths → Face → List ℕ → Verdicts
verdicts_of column bolt face forces = record {
  bending = carries_of face forces;
  bolts = bolts_pass bolt column face.plate face.shear_rows face.loads.shear forces;
  flange_weld = flange_weld_passes face forces;
  web_weld = web_weld_passes face;
}
