-- The sum of the forces from the top row down to a row is the greatest number that no group ending there forbids:
-- at most what the rows above row i have got and the lowered limit of rows i to k together, for each i, and nothing larger is.
-- By induction over the rows; no difference wraps, since a lowered limit grows as the group reaches further.
-- So sums that every group holds to within some newtons of the shared ones are within these newtons of them. Assumes nothing.
use mathlib.Core.Path.{◌≡◌, refl, sym, ap, ◌∙◌}
use mathlib.Core.Logic.{⊎_elim}
use Prim.Native.Nat.{ℕ, zero, suc, ◌+◌, ◌-◌, ◌≤◌, ◌<◌, min}
use native.Mathlib.Nat.{le_refl, le_trans, le_of_eq, le-suc_iff}
use mathlib.Core.List.{List}
use native.Mathlib.Omega.{arith}
use native.Mathlib.Numerals.{add-one}
use lib.ListN.{length, take, drop, length-append}
use lib.Seq.{take-append-le, take_all}
use Rattle.sharing.specs.Groups.{Table, total}
use Rattle.sharing.specs.Sharing.{lowered, allowance, next_force, forces_down_to, shared}
use Rattle.sharing.proofs.Least.{least_le, le_least}
use Rattle.sharing.proofs.Lowering.{lowered_grows}
use Rattle.sharing.proofs.Totals.{total_snoc, total_cut, take_rows}

-- What the first k rows have got together.
unfoldable pub sum_down_to : Table → ℕ → ℕ → ℕ
sum_down_to limit n k = total (forces_down_to limit n k)

module _ (limit : Table) (n : ℕ) where
  pub length_forces : (k : ℕ) → length (forces_down_to limit n k) ≡ k
  unfolding forces_down_to
  length_forces zero = refl
  length_forces (suc k) =
      length-append (forces_down_to limit n k) _ ∙ ap (λ m. m + 1) (length_forces k) ∙ add-one k

  take_forces : (k m : ℕ) → m ≤ k → take m (forces_down_to limit n k) ≡ forces_down_to limit n m
  unfolding forces_down_to
  take_forces zero m h = let top : m ≡ 0 = omega arith in rw top
  take_forces (suc k) m h =
      ⊎_elim
      (λ below.
      let inside : m ≤ length (forces_down_to limit n k) = rw (length_forces k) below in
      take-append-le m (forces_down_to limit n k) _ inside ∙ take_forces k m below)
      (λ last. rw last (take_all (suc k) _ (le_of_eq (length_forces (suc k)))))
      (le-suc_iff.0 h)

  -- the first k of the shared forces, all of them where there are fewer
  pub take_shared : (k : ℕ) → take k (shared limit n) ≡ forces_down_to limit n (min k n)
  unfolding shared
  take_shared k = take_rows (forces_down_to limit n n) n k (length_forces n) ∙ take_forces n (min k n) (omega arith)

  pub sum_shared : (k : ℕ) → total (take k (shared limit n)) ≡ sum_down_to limit n (min k n)
  unfolding sum_down_to
  sum_shared k = ap total (take_shared k)

  pub sum_inside : (k : ℕ) → k ≤ n → total (take k (shared limit n)) ≡ sum_down_to limit n k
  sum_inside k h = let rows : min k n ≡ k = omega arith in rw rows at (sum_shared k)

  -- what rows i to k − 1 have got
  sum_between : (k i : ℕ) → i ≤ k → sum_down_to limit n i + total (drop i (forces_down_to limit n k)) ≡ sum_down_to limit n k
  unfolding sum_down_to
  sum_between k i h = ap (λ xs. total xs + total (drop i (forces_down_to limit n k))) (sym (take_forces k i h)) ∙ total_cut i _

  -- the force of the next row is at most what each group ending there allows, and nothing larger is
  next_le : (above : List ℕ) (i : ℕ) → i ≤ length above → next_force limit n above ≤ lowered limit n i (length above) - total (drop i above)
  unfolding next_force allowance
  next_le above i h = le_trans (least_le (allowance limit n above) (length above) i h) (omega arith)

  le_next : (above : List ℕ) (x : ℕ) → ((i : ℕ) → i ≤ length above → x ≤ lowered limit n i (length above) - total (drop i above))
      → x ≤ next_force limit n above
  unfolding next_force allowance
  le_next above x below = le_least (allowance limit n above) (length above) x (λ i h. let b = below i h in omega arith)

  pub sum_step : (k : ℕ) → sum_down_to limit n (suc k) ≡ sum_down_to limit n k + next_force limit n (forces_down_to limit n k)
  unfolding sum_down_to forces_down_to
  sum_step k = total_snoc (forces_down_to limit n k) _

  sum_le_from : (k i : ℕ) → k < n → i ≤ k → sum_down_to limit n k ≤ sum_down_to limit n i + lowered limit n i k
      → sum_down_to limit n (suc k) ≤ sum_down_to limit n i + lowered limit n i k
  sum_le_from k i inside h fits =
      let above = forces_down_to limit n k in
      let force = rw (length_forces k) at (next_le above i (rw (length_forces k) h)) in
      omega (arith, sum_step k, sum_between k i h)

  pub sum_le : (k i : ℕ) → k < n → i ≤ k → sum_down_to limit n (suc k) ≤ sum_down_to limit n i + lowered limit n i k
  sum_le zero i inside h = let top : i ≡ 0 = omega arith in sum_le_from 0 i inside h (rw top (omega arith))
  sum_le (suc k) i inside h =
      sum_le_from (suc k) i inside h
      (⊎_elim
      (λ below. let above = sum_le k i (omega arith) below in omega (arith, lowered_grows limit n i k inside))
      (λ last. rw last (omega arith))
      (le-suc_iff.0 h))

  pub le_sum : (k x : ℕ) → ((i : ℕ) → i ≤ k → x ≤ sum_down_to limit n i + lowered limit n i k) → x ≤ sum_down_to limit n (suc k)
  le_sum k x below =
      let above = forces_down_to limit n k in
      let allowed : (i : ℕ) → i ≤ length above → x - sum_down_to limit n k ≤ lowered limit n i (length above) - total (drop i above)
      = rw (length_forces k) (λ i h. let b = below i h in omega (arith, sum_between k i h)) in
      let force = le_next above (x - sum_down_to limit n k) allowed in
      omega (arith, sum_step k)

  -- Other sums, which every group holds to at most `more` newtons above what it allows the shared sum, given that they are no further
  -- above the shared sum where the group begins: then they are nowhere further above it.
  module _ (sum : ℕ → ℕ) (more : ℕ) (top : sum 0 ≤ more)
      (held : (k i : ℕ) → i ≤ k → k < n → sum i ≤ sum_down_to limit n i + more
      → sum (suc k) ≤ sum_down_to limit n i + lowered limit n i k + more) where
    -- down to row k, and to each row above it
    within_down_to : (k m : ℕ) → m ≤ k → m ≤ n → sum m ≤ sum_down_to limit n m + more
    within_down_to zero m h inside = let none : m ≡ 0 = omega arith in rw none (omega (arith, top))
    within_down_to (suc k) m h inside =
        ⊎_elim
        (λ below. within_down_to k m below inside)
        (λ last. rw last
        (let next = le_sum k (sum (suc k) - more)
        (λ i hi. omega (arith, held k i hi (omega arith) (within_down_to k i hi (omega arith)))) in omega arith))
        (le-suc_iff.0 h)

    pub sums_within : (k : ℕ) → k ≤ n → sum k ≤ sum_down_to limit n k + more
    sums_within k inside = within_down_to k k (le_refl k) inside
