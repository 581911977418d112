-- The welds' verdicts (rules 8.4 and 8.5).
-- Assumes nothing.
use Rattle.std.specs.Prelude.{ℕ, ◌*◌, ◌/◌, min, Bool, cond, ◌||◌, List, leb, eqb, take}
use Rattle.joint.specs.declared.Face.{Face}
use Rattle.strength.specs.Steel.{steel_strength, weld_strength}
use Rattle.sharing.specs.Groups.{total}

-- rule 8.4: the sum of the first three rows, two if flush, all if there are fewer
unfoldable pub top_rows : (extended : ℕ) → List ℕ → ℕ
top_rows extended forces = total (take (cond (eqb extended 0) 2 3) forces)

-- rule 8.4, where `top` is that sum
unfoldable pub flange_weld_by : Face → (top : ℕ) → Bool
flange_weld_by face top =
    let beam = face.beam in
    leb (10 * beam.flange) (14 * face.welds.flange)
    || leb (min (steel_strength beam.grade beam.flange * beam.flange * beam.width / 100) top)
    (14 * face.welds.flange * beam.width * weld_strength beam.grade face.plate.grade / 1000)

abbrev pub flange_weld_passes : Face → List ℕ → Bool
flange_weld_passes face forces = flange_weld_by face (top_rows face.extended forces)

-- rule 8.5
unfoldable pub web_weld_passes : Face → Bool
web_weld_passes face =
    leb face.loads.shear (14 * face.welds.web * face.welds.length * weld_strength face.beam.grade face.plate.grade / 1000)
