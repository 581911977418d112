-- The bolts' verdict (rules 8.2 and 8.3): pairs of bolts in shear and bearing, from the bolts' figures.
-- Assumes nothing.
use Rattle.std.specs.Prelude.{ℕ, ◌+◌, ◌*◌, ◌/◌, min, Bool, cond, List, map, leb, eqb}
use Rattle.joint.specs.declared.Column.{Column}
use Rattle.joint.specs.declared.Plate.{Plate}
use Rattle.strength.specs.Steel.{steel_bearing}
use Rattle.strength.specs.declared.BoltStrengths.{BoltStrengths}
use Rattle.sharing.specs.Groups.{total}

-- rule 8.2: bearing of a pair on one part; pb is the lower of the two strengths
abbrev pub pair_bearing : BoltStrengths → (thickness grade : ℕ) → ℕ
pair_bearing bolt thickness grade = bolt.diameter * thickness * min bolt.bearing (steel_bearing grade) / 5

-- the lesser of the two bearings, on the plate and on the column flange
unfoldable pub bearing : BoltStrengths → Column → Plate → ℕ
bearing bolt column plate =
    min (pair_bearing bolt plate.thickness plate.grade) (pair_bearing bolt column.flange column.grade)

-- rule 8.2: what a row with force 0 and a shear row count
unfoldable pub idle_pair : BoltStrengths → Column → Plate → ℕ
idle_pair bolt column plate = min bolt.pair_shear (bearing bolt column plate)

-- rule 8.2: what a row with a force counts
unfoldable pub pulling_pair : BoltStrengths → Column → Plate → ℕ
pulling_pair bolt column plate = min (2 * bolt.pair_shear / 5) (bearing bolt column plate)

-- rule 8.3: the total of the rows and the shear rows
unfoldable pub bolt_total : BoltStrengths → Column → Plate → (shear_rows : ℕ) → List ℕ → ℕ
bolt_total bolt column plate shear_rows forces =
    total (map (λ force. cond (eqb force 0) (idle_pair bolt column plate) (pulling_pair bolt column plate)) forces)
    + shear_rows * idle_pair bolt column plate

-- rule 8.3
unfoldable pub bolts_pass : BoltStrengths → Column → Plate → (shear_rows shear : ℕ) → List ℕ → Bool
bolts_pass bolt column plate shear_rows shear forces = leb shear (bolt_total bolt column plate shear_rows forces)
