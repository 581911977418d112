-- The least of f 0 .. f k is at most each of them, and whatever is at most each of them is at most it.
-- Every fact about `least`, and so about lowering and sharing, goes through these two.
-- Assumes nothing.
use mathlib.Core.Path.{◌≡◌}
use mathlib.Core.Logic.{⊎_elim}
use Prim.Native.Nat.{ℕ, zero, suc, ◌≤◌}
use native.Mathlib.Nat.{le_refl, le_trans, le_step, min-le_left, min-le_right, le-min, le-suc_iff}
use native.Mathlib.Omega.{arith}
use Rattle.sharing.specs.Sharing.{least_up_to}

module _ (f : ℕ → ℕ) where
  pub least_le : (k i : ℕ) → i ≤ k → least_up_to f k ≤ f i
  unfolding least_up_to
  least_le zero i h = let top : i ≡ 0 = omega arith in rw top (le_refl (f 0))
  least_le (suc k) i h =
      ⊎_elim (λ below. le_trans (min-le_left _ _) (least_le k i below)) (λ last. rw last (min-le_right _ _)) (le-suc_iff.0 h)

  pub le_least : (k x : ℕ) → ((i : ℕ) → i ≤ k → x ≤ f i) → x ≤ least_up_to f k
  unfolding least_up_to
  le_least zero x below = below 0 (le_refl 0)
  le_least (suc k) x below = le-min (le_least k x (λ i h. below i (le_step h))) (below (suc k) (le_refl (suc k)))
