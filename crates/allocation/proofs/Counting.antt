-- Counting the groups that begin at one row into the sums, one store a group, from the longest group to the shortest.
-- Assumes nothing.
use mathlib.Core.Path.{◌≡◌, ap₂, ◌∙◌}
use mathlib.Core.Logic.{⊎_elim}
use Prim.Native.Nat.{ℕ, suc, ◌+◌, ◌-◌, ◌≤◌, ◌<◌, min}
use native.Mathlib.Nat.{eq-or-lt_of_le}
use native.Mathlib.Omega.{arith}
use mathlib.Core.List.{List}
use lib.ListN.{length, get_or, set, length-set}
use lib.Seq.{get_or-set_same, get_or-set_other}
use Rattle.sharing.specs.Groups.{most_limit}
use Rattle.sharing.specs.Sharing.{lowered}
use Rattle.sharing.proofs.Lowering.{lowered_last, lowered_next}
use Rattle.allocation.specs.Steps.{own_table, Countable, Counted}

-- How things stand when the groups that end at row `last` or below are counted: the lowered limit of the last one counted, and before the
-- first a number that lowers none.
pub record CountedFrom (limits : List ℕ) (row n above last low : ℕ) (sums₀ sums : List ℕ) : Type 0 where
  pub from_row : row ≤ last
  pub none : n ≤ last → most_limit ≤ low
  pub least : last < n → low ≡ lowered (own_table limits row) n row last
  pub counted : Counted (own_table limits row) n row above last sums₀ sums

module _ (limits : List ℕ) (row n above : ℕ) (asked : Countable limits row n above) (sums₀ : List ℕ) (places : n ≤ length sums₀) where
  -- a group's lowered limit, by that of the next longer one
  lower : (last low : ℕ) (sums : List ℕ) → row ≤ last → last < n → CountedFrom limits row n above (suc last) low sums₀ sums
      → min low (get_or limits (last - row) 0) ≡ lowered (own_table limits row) n row last
  lower last low sums h inside c =
      let limit = own_table limits row in
      ⊎_elim
      (λ longest. omega (arith, c.none (omega (arith, longest)), asked.bounded (last - row) (omega arith), lowered_last limit n row last longest))
      (λ shorter. omega (arith, c.least shorter, lowered_next limit n row last shorter))
      (eq-or-lt_of_le inside)

  -- one group more
  pub one_more : (next last low lower_by stored : ℕ) (sums : List ℕ) → next ≡ suc last → row ≤ last → last < n
      → CountedFrom limits row n above next low sums₀ sums → lower_by ≡ min low (get_or limits (last - row) 0)
      → stored ≡ min (get_or sums last 0) (above + lower_by)
      → CountedFrom limits row n above last lower_by sums₀ (set sums last stored)
  one_more next last low lower_by stored sums e h inside c el es =
      let at : CountedFrom limits row n above (suc last) low sums₀ sums = rw e at c in
      let own = el ∙ lower last low sums h inside at in
      let held : last < length sums = omega (arith, c.counted.size) in
      record {
        from_row = h;
        none = λ past. absurd (omega arith);
        least = λ _. own;
        counted = record {
          size = length-set sums last _ ∙ c.counted.size;
          stay = λ k hk. get_or-set_other sums last k _ 0 (omega arith) ∙ c.counted.stay k (omega arith);
          counted = λ k hk under.
              ⊎_elim
              (λ same. rw (← same) (get_or-set_same sums last _ 0 held ∙ es ∙ ap₂ (λ a b. min a (above + b)) (c.counted.stay last (omega arith)) own))
              (λ past. get_or-set_other sums last k _ 0 (omega arith) ∙ c.counted.counted k (omega arith) under)
              (eq-or-lt_of_le hk);
        };
      }
