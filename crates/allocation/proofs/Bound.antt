-- Whether no number of a list is above a bound, as the code asks it, of all at once or one by one, and what it says of each number.
-- Assumes nothing.
use mathlib.Core.Path.{◌≡◌, refl, ap}
use mathlib.Core.Bool.{true, ◌&&◌, and-eq-true_iff}
use Prim.Native.Nat.{ℕ, zero, suc, ◌≤◌, ◌<◌}
use native.Mathlib.Nat.{le_refl, le_trans}
use native.Mathlib.Omega.{arith}
use mathlib.Core.List.{List, [], ◌∷◌}
use lib.ListN.{length, get_or}
use lib.Dec.{leb}
use borrow.Author.Tests.{le-leb, leb-true}
use Rattle.std.specs.List.{fold, list_all}
use Rattle.std.specs.Prelude.{bit_or}
use Rattle.std.proofs.lemmas.Nat.{le_or_l, le_or_r}
use Rattle.allocation.specs.Allocation.{none_above}

module _ (most : ℕ) where
  pub none_above_all : (xs : List ℕ) → none_above most xs ≡ list_all (λ x. leb x most) xs
  unfolding none_above
  none_above_all [] = refl
  none_above_all (x ∷ xs) = ap (λ b. leb x most && b) (none_above_all xs)

  pub each_within : (xs : List ℕ) → none_above most xs ≡ true → (k : ℕ) → k < length xs → get_or xs k 0 ≤ most
  unfolding none_above
  each_within [] t k h = absurd (omega arith)
  each_within (x ∷ xs) t zero h = leb-true x most ((and-eq-true_iff (leb x most) (none_above most xs)).0 t).0
  each_within (x ∷ xs) t (suc k) h = each_within xs ((and-eq-true_iff (leb x most) (none_above most xs)).0 t).1 k (omega arith)

  -- a bitwise or is at least what it begins with, and at least each number in it
  from_first : (bits : ℕ) (xs : List ℕ) → bits ≤ fold bit_or bits xs
  from_first bits [] = le_refl bits
  from_first bits (x ∷ xs) = le_trans (le_or_l bits x) (from_first (bit_or bits x) xs)

  pub none_above_or : (bits : ℕ) (xs : List ℕ) → fold bit_or bits xs ≤ most → none_above most xs ≡ true
  unfolding none_above
  none_above_or bits [] few = refl
  none_above_or bits (x ∷ xs) few =
      (and-eq-true_iff (leb x most) (none_above most xs)).1
      (le-leb x most (le_trans (le_or_r bits x) (le_trans (from_first (bit_or bits x) xs) few)), none_above_or (bit_or bits x) xs few)
