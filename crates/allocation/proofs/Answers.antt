-- The cases of what Allocate answers, as the code's tests tell them apart, and what an answer that is no refusal is.
-- Assumes nothing.
use mathlib.Core.Path.{◌≡◌, sym, ap, ◌∙◌}
use mathlib.Core.Bool.{true, false}
use Prim.Native.Nat.{ℕ, suc, ◌-◌, ◌≤◌, ◌<◌}
use native.Mathlib.Omega.{arith}
use mathlib.Core.List.{List}
use lib.ListN.{length, take, replicate}
use lib.Seq.{take_at, length-take-le, get_or-take}
use borrow.Author.Tests.{lt-leb, le-leb, leb-true}
use Rattle.arithmetic.specs.Range.{within}
use Rattle.arithmetic.proofs.Checks.{holds, fails, none_left, numbered, positive, numbered_holds}
use Rattle.joint.specs.Ranges.{row_counts}
use Rattle.joint.specs.Places.{eight_places}
use Rattle.joint.proofs.Faces.{at_most_eight}
use Rattle.sharing.specs.Groups.{Table, group_count, listed, most_limit}
use Rattle.sharing.specs.Sharing.{shared}
use Rattle.sharing.specs.Best.{Best}
use Rattle.sharing.proofs.Theorems.{best}
use Rattle.allocation.specs.Allocation.{Allocation, none_above, refused_allocation, allocate_refusals, allocated}
use Rattle.allocation.specs.Steps.{Shareable}
use Rattle.allocation.proofs.Bound.{each_within}

-- the places of the rows are the forces
pub rows_kept : (n : ℕ) (limit : Table) → take n (eight_places (shared limit n)) ≡ shared limit n
unfolding eight_places
rows_kept n limit =
    take_at (shared limit n) (replicate (row_counts.high - length (shared limit n)) 0) n (best limit n).competes.rows

module _ (n : ℕ) (limits : List ℕ) where
  pub refused_by_3 : within row_counts n ≡ false → allocated n limits ≡ refused_allocation 3
  unfolding allocated allocate_refusals
  refused_by_3 bad = fails _ refused_allocation 3 _ _ bad

  module _ (rows : within row_counts n ≡ true) where
    pub refused_by_7 : length limits < group_count n → allocated n limits ≡ refused_allocation 7
    unfolding allocated allocate_refusals
    refused_by_7 few = holds _ refused_allocation 3 _ _ rows ∙ fails _ refused_allocation 7 _ _ (lt-leb _ _ few)

    module _ (enough : group_count n ≤ length limits) where
      pub refused_by_8 : none_above most_limit (take (group_count n) limits) ≡ false → allocated n limits ≡ refused_allocation 8
      unfolding allocated allocate_refusals
      refused_by_8 bad =
          holds _ refused_allocation 3 _ _ rows ∙ holds _ refused_allocation 7 _ _ (le-leb _ _ enough) ∙ fails _ refused_allocation 8 _ _ bad

      module _ (small : none_above most_limit (take (group_count n) limits) ≡ true) where
        pub taken : allocated n limits ≡ record { refusal = 0; forces = eight_places (shared (listed n limits) n) }
        unfolding allocated allocate_refusals
        taken =
            holds _ refused_allocation 3 _ _ rows ∙ holds _ refused_allocation 7 _ _ (le-leb _ _ enough)
            ∙ holds _ refused_allocation 8 _ _ small ∙ none_left _ refused_allocation

        pub shareable : Shareable n limits
        shareable =
            record {
              rows = at_most_eight n rows;
              enough = enough;
              bounded = λ k h.
                  let inside : k < length (take (group_count n) limits) = rw (length-take-le (group_count n) limits enough) h in
                  rw (get_or-take (group_count n) limits k 0 h) at (each_within most_limit (take (group_count n) limits) small k inside);
            }

  -- an answer that is no refusal: there is a limit for each group, and the forces are the shared ones
  pub not_refused : (answer : Allocation) → allocated n limits ≡ answer → answer.refusal ≡ 0
      → (group_count n ≤ length limits) × (take n answer.forces ≡ shared (listed n limits) n)
  unfolding allocated allocate_refusals positive numbered
  not_refused answer e none =
      let passed = numbered_holds _ refused_allocation answer
      (λ number refused. let never : suc number ≡ 0 = ap (λ a. a.refusal) refused ∙ none in absurd (omega arith))
      (allocate_refusals n limits) tt e in
      (leb-true _ _ (passed.0 7), ap (λ a. take n a.forces) (sym passed.1) ∙ rows_kept n (listed n limits))

  -- so they are the best
  pub no_refusal_is_best : (answer : Allocation) → allocated n limits ≡ answer → answer.refusal ≡ 0
      → Best (listed n limits) n (take n answer.forces)
  no_refusal_is_best answer e none = rw (not_refused answer e none).1 (best (listed n limits) n)
