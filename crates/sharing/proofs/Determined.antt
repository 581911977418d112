-- Demand 3 alone determines the forces, in a triangle too, where what competes hangs on the list's own reference force. A list that keeps
-- nothing below the reference competes whatever that force is, so the sums down to the reference and to the row above it are the largest
-- that there are without the added limits: so is the force between them fixed, and with it the added limits. Assumes nothing.
use Rattle.std.specs.Prelude.{Option, None, Some}
use mathlib.Core.Path.{◌≡◌, refl, ap, ◌∙◌}
use Prim.Native.Nat.{ℕ, zero, suc, ◌-◌, ◌≤◌}
use native.Mathlib.Nat.{le_refl, le_trans, le_antisymm}
use native.Mathlib.Omega.{arith}
use mathlib.Core.List.{List, [], ◌∷◌}
use lib.ListN.{length, get_or, take, drop}
use Rattle.sharing.specs.Groups.{Table, total, group_sum}
use Rattle.sharing.specs.Sharing.{shared, Competes}
use Rattle.sharing.specs.Triangle.{Triangle, with_added, reference_force, limits_in, KeepsAdded, KeepsTriangle}
use Rattle.sharing.proofs.Theorems.{shared_competes, sum_le_shared, largest_is_shared}
use Rattle.sharing.proofs.Totals.{next_sum}
use Rattle.sharing.proofs.Triangle.{added_are_limits}

-- the first k forces of a list, and nothing for its other rows
only : ℕ → List ℕ → List ℕ
only k [] = []
only zero (x ∷ xs) = 0 ∷ only zero xs
only (suc k) (x ∷ xs) = x ∷ only k xs

only_length : (k : ℕ) (xs : List ℕ) → length (only k xs) ≡ length xs
unfolding only
only_length k [] = refl
only_length zero (x ∷ xs) = ap suc (only_length zero xs)
only_length (suc k) (x ∷ xs) = ap suc (only_length k xs)

only_top : (k j : ℕ) (xs : List ℕ) → j ≤ k → take j (only k xs) ≡ take j xs
unfolding only
only_top k j [] h = refl
only_top k zero (x ∷ xs) h = refl
only_top zero (suc j) (x ∷ xs) h = absurd (omega arith)
only_top (suc k) (suc j) (x ∷ xs) h = ap (λ ys. x ∷ ys) (only_top k j xs (omega arith))

only_below : (k row : ℕ) (xs : List ℕ) → k ≤ row → get_or (only k xs) row 0 ≡ 0
unfolding only
only_below k row [] h = refl
only_below zero zero (x ∷ xs) h = refl
only_below zero (suc row) (x ∷ xs) h = only_below zero row xs (omega arith)
only_below (suc k) zero (x ∷ xs) h = absurd (omega arith)
only_below (suc k) (suc row) (x ∷ xs) h = only_below k row xs (omega arith)

-- no group has more
only_le : (k i m : ℕ) (xs : List ℕ) → total (take m (drop i (only k xs))) ≤ total (take m (drop i xs))
unfolding only
only_le k i m [] = le_refl _
only_le k zero zero (x ∷ xs) = omega arith
only_le zero zero (suc m) (x ∷ xs) = omega (arith, only_le zero zero m xs)
only_le (suc k) zero (suc m) (x ∷ xs) = omega (arith, only_le k zero m xs)
only_le zero (suc i) m (x ∷ xs) = only_le zero i m xs
only_le (suc k) (suc i) m (x ∷ xs) = only_le k i m xs

only_competes : (k : ℕ) (limit : Table) (n : ℕ) (forces : List ℕ) → Competes limit n forces → Competes limit n (only k forces)
unfolding group_sum
only_competes k limit n forces c = record {
  rows = only_length k forces ∙ c.rows;
  keeps = λ i j h inside. le_trans (only_le k i (suc j - i) forces) (c.keeps i j h inside);
}

-- A list that competes by its own reference force, and whose sums from the top are the largest of those that compete by that force.
module _ (t : Triangle) (limit : Table) (n : ℕ) (program : List ℕ) (c : Competes limit n program)
    (kept : KeepsAdded t (get_or program t.reference 0) n program)
    (largest : (other : List ℕ) → Competes limit n other → KeepsAdded t (get_or program t.reference 0) n other → (k : ℕ)
    → total (take k other) ≤ total (take k program)) where
  -- its sums down to the reference are those of the shared list without added limits
  sums_above : (k : ℕ) → k ≤ suc t.reference → total (take k program) ≡ total (take k (shared limit n))
  sums_above k h =
      let top = only (suc t.reference) (shared limit n) in
      let least = largest top (only_competes (suc t.reference) limit n (shared limit n) (shared_competes limit n))
      (λ row below inside. omega (arith, only_below (suc t.reference) row (shared limit n) (omega arith))) k in
      le_antisymm (sum_le_shared limit n program c k)
      (omega (arith, least, ap total (only_top (suc t.reference) k (shared limit n) h)))

  own_force : get_or program t.reference 0 ≡ reference_force t limit n
  own_force =
      omega (
        arith,
        sums_above t.reference (omega arith),
        sums_above (suc t.reference) (le_refl _),
        next_sum program t.reference,
        next_sum (shared limit n) t.reference,
      )

  in_triangle : program ≡ shared (with_added t (reference_force t limit n) limit) n
  in_triangle =
      largest_is_shared (with_added t (reference_force t limit n) limit) n program
      ((added_are_limits t _ limit n program).1 (c, rw own_force at kept))
      (λ other under k. let both = (added_are_limits t _ limit n other).0 under in largest other both.0 (rw own_force both.1) k)

pub determined : (triangle : Option Triangle) (limit : Table) (n : ℕ) (program : List ℕ) → Competes limit n program
    → KeepsTriangle triangle n program program
    → ((other : List ℕ) → Competes limit n other → KeepsTriangle triangle n program other → (k : ℕ)
    → total (take k other) ≤ total (take k program))
    → program ≡ shared (limits_in triangle limit n) n
determined None limit n program c kept largest = largest_is_shared limit n program c (λ other under. largest other under tt)
determined (Some t) limit n program c kept largest = in_triangle t limit n program c kept largest
