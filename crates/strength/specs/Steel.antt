-- Rules 3.1, 3.4 and 3.5: steel by grade and thickness, its bearing strength, and welds. What a table doesn't have is 0.
-- Assumes nothing.
use Rattle.std.specs.Prelude.{ℕ, Bool, cond, ◌||◌, List, [], ◌∷◌, eqb}
use Rattle.arithmetic.specs.Table.{lookup, up_to}
use Rattle.joint.specs.Ranges.{grades}
use Rattle.joint.specs.declared.Column.{Column}
use Rattle.joint.specs.declared.Beam.{Beam}
use Rattle.joint.specs.declared.Plate.{Plate}
use Rattle.strength.specs.declared.SteelStrengths.{SteelStrengths}

-- up to 16, 40 and 63 mm, in tenths
abbrev pub bands : List ℕ
bands = 160 ∷ 400 ∷ 630 ∷ []

-- rule 3.1: BS 5950-1:2000 Table 9
unfoldable pub steel_strength : (grade thickness : ℕ) → ℕ
steel_strength grade thickness =
    lookup grades (up_to bands (275 ∷ 265 ∷ 255 ∷ []) thickness ∷ up_to bands (355 ∷ 345 ∷ 335 ∷ []) thickness ∷ []) grade

-- rule 3.1: yc and yb go by flange thickness, yp by tp
abbrev pub steel_strengths : Column → Beam → Plate → SteelStrengths
steel_strengths column beam plate = record {
  column = steel_strength column.grade column.flange;
  beam = steel_strength beam.grade beam.flange;
  plate = steel_strength plate.grade plate.thickness;
}

-- rule 3.4
unfoldable pub steel_bearing : (grade : ℕ) → ℕ
steel_bearing = lookup grades (460 ∷ 550 ∷ [])

-- beam or plate is of grade 275
abbrev pub either_is_275 : (beam plate : ℕ) → Bool
either_is_275 beam plate = eqb beam 275 || eqb plate 275

-- rule 3.5: pw
unfoldable pub weld_strength : (beam plate : ℕ) → ℕ
weld_strength beam plate = cond (either_is_275 beam plate) 220 250
