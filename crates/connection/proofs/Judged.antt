-- The verdicts on forces for a face's rows, from what the code counts of their eight places.
-- Assumes nothing.
use mathlib.Core.Path.{◌≡◌, refl, ap, ap₂, ◌∙◌}
use mathlib.Core.Bool.{cond}
use Prim.Native.Nat.{ℕ, zero, suc, ◌+◌, ◌-◌, ◌*◌, ◌≤◌}
use native.Mathlib.Omega.{arith}
use mathlib.Core.List.{List, [], ◌∷◌, ◌++◌}
use lib.ListN.{length, take, replicate}
use lib.Dec.{leb, eqb}
use Rattle.joint.specs.declared.Column.{Column}
use Rattle.strength.specs.declared.BoltStrengths.{BoltStrengths}
use Rattle.joint.specs.declared.Face.{Face}
use Rattle.sharing.specs.Groups.{total}
use Rattle.joint.specs.Ranges.{row_counts}
use Rattle.joint.specs.Places.{eight_places}
use Rattle.verdicts.specs.Tally.{pulling_rows}
use Rattle.verdicts.specs.Bolts.{idle_pair, pulling_pair, bolts_pass}
use Rattle.verdicts.specs.Welds.{top_rows}
use Rattle.verdicts.proofs.Tallying.{pulling_le_length, total_by_kind}
use Rattle.connection.specs.OneFace.{rows_of}

-- places that are 0 add nothing to a sum from the top
top_zeros : (k m : ℕ) → total (take k (replicate m 0)) ≡ 0
top_zeros zero m = refl
top_zeros (suc k) zero = refl
top_zeros (suc k) (suc m) = omega (arith, top_zeros k m)

top_of_places : (k m : ℕ) (xs : List ℕ) → total (take k (xs ++ replicate m 0)) ≡ total (take k xs)
top_of_places zero m xs = refl
top_of_places (suc k) m [] = top_zeros (suc k) m
top_of_places (suc k) m (x ∷ xs) = ap (λ t. x + t) (top_of_places k m xs)

pub top_judged : (extended : ℕ) (forces : List ℕ) → top_rows extended (eight_places forces) ≡ top_rows extended forces
unfolding top_rows eight_places
top_judged extended forces = top_of_places (cond (eqb extended 0) 2 3) (row_counts.high - length forces) forces

module _ (column : Column) (bolt : BoltStrengths) (face : Face) (forces : List ℕ) (rows : length forces ≡ rows_of face) where
  pub pulling_le : pulling_rows forces ≤ rows_of face
  pulling_le = omega (arith, pulling_le_length forces, rows)

  pub bolts_judged : (pulling idle : ℕ) → pulling ≡ pulling_rows forces → idle ≡ rows_of face + face.shear_rows - pulling
      → leb face.loads.shear (pulling * pulling_pair bolt column face.plate + idle * idle_pair bolt column face.plate)
      ≡ bolts_pass bolt column face.plate face.shear_rows face.loads.shear forces
  unfolding bolts_pass
  bolts_judged pulling idle ep ei =
      let others : idle ≡ length forces - pulling_rows forces + face.shear_rows = omega (arith, rows, pulling_le, ep, ei) in
      ap (leb face.loads.shear)
      (ap₂ (λ p i. p * pulling_pair bolt column face.plate + i * idle_pair bolt column face.plate) ep others
      ∙ total_by_kind bolt column face.plate face.shear_rows forces)
