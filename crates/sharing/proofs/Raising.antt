-- How far one limit moves the figure, for any count of rows and any table: the shared forces move within the raise of one limit.
-- Nothing falls, since the forces before still compete after. A sum down to row k is the least, over the groups that end there, of what
-- the rows above a group have got and its lowered limit. Groups that begin at the raised group's first row or above it: their rows above
-- have what they had, and the lowered limit is up by the raise at most. Groups that begin below: their lowered limits are what they were,
-- and the rows above have got the raise more at most. Assumes nothing.
use mathlib.Core.Path.{◌≡◌, refl, sym, ap, ◌∙◌}
use mathlib.Core.Bool.{Bool, true, false, cond, ◌&&◌}
use Prim.Native.Nat.{ℕ, suc, ◌+◌, ◌-◌, ◌*◌, ◌≤◌, ◌<◌, min}
use native.Mathlib.Nat.{le_refl, le_trans}
use native.Mathlib.Decide.{dec_le}
use native.Mathlib.Omega.{arith}
use mathlib.Core.List.{List}
use lib.ListN.{take, get_or}
use lib.Dec.{eqb, ltb}
use borrow.Author.Tests.{eqb-true}
use Rattle.sharing.specs.Groups.{Table, total}
use Rattle.sharing.specs.Sharing.{lowered, forces_down_to, shared, Competes, Falling, moment}
use Rattle.sharing.specs.Raising.{Raise, raised, MovesWithin, SharedMovesWithin, MovesWithinTriangle}
use Rattle.sharing.specs.Triangle.{Triangle, added_limit, with_added, reference_force}
use Rattle.sharing.proofs.Least.{least_le, le_least}
use Rattle.sharing.proofs.Sums.{sum_down_to, sum_shared, sum_inside, sum_le, sums_within}
use Rattle.sharing.proofs.Moments.{falling_from, moment-within}
use Rattle.sharing.proofs.Theorems.{shared_competes, sum_le_shared, moment_le_shared}
use Rattle.sharing.proofs.Agreement.{lowered_agrees, rows_agree, force_agrees}

-- A table after the limit of a group went up by the raise, or by less; the group is one of those that begin at the raise's first row.
record RaisedBy (raise : Raise) (limit after : Table) : Type 0 where
  within : (i j : ℕ) → (limit i j ≤ after i j) × (after i j ≤ limit i j + raise.newtons)
  elsewhere : (i j : ℕ) → (i ≡ raise.first → ⊥) → after i j ≡ limit i j

by_raised : (raise : Raise) (limit : Table) → RaisedBy raise limit (raised raise limit)
unfolding raised
by_raised raise limit = record {
  within = λ i j. up (eqb i raise.first && eqb j raise.last) (limit i j);
  elsewhere = λ i j other. same (eqb i raise.first) (eqb j raise.last) (limit i j) (λ e. other (eqb-true _ _ e));
}
  where
    up : (t : Bool) (l : ℕ) → (l ≤ cond t (l + raise.newtons) l) × (cond t (l + raise.newtons) l ≤ l + raise.newtons)
    up true l = (omega arith, le_refl _)
    up false l = (le_refl _, omega arith)

    same : (s t : Bool) (l : ℕ) → (s ≡ true → ⊥) → cond (s && t) (l + raise.newtons) l ≡ l
    same true t l other = absurd (other refl)
    same false t l other = refl

module _ (raise : Raise) (limit after : Table) (r : RaisedBy raise limit after) (n : ℕ) where
  still_competes : Competes after n (shared limit n)
  still_competes =
      let c = shared_competes limit n in
      record { rows = c.rows; keeps = λ i j h inside. le_trans (c.keeps i j h inside) (r.within i j).0 }

  above_stays : (k : ℕ) → k ≤ raise.first → total (take k (shared after n)) ≡ total (take k (shared limit n))
  above_stays k h = ap total (rows_agree after limit n k (λ i j early hj inside. r.elsewhere i j (λ e. omega arith)))

  lowered_rises_within : (i j : ℕ) → lowered after n i j ≤ lowered limit n i j + raise.newtons
  unfolding lowered
  lowered_rises_within i j =
      let lower = le_least (λ d. limit i (j + d)) (n - suc j) (lowered after n i j - raise.newtons)
      (λ d h.
      let own = least_le (λ e. after i (j + e)) (n - suc j) d h in
      let up = (r.within i (j + d)).1 in
      omega arith) in
      omega arith

  -- what the group of rows i to k allows the sum down to row k
  allowed_rises_within : (k i : ℕ) → i ≤ k → k < n → sum_down_to after n i ≤ sum_down_to limit n i + raise.newtons
      → sum_down_to after n (suc k) ≤ sum_down_to limit n i + lowered limit n i k + raise.newtons
  allowed_rises_within k i h inside above =
      let allowed = sum_le after n k i inside h in
      elim (dec_le i raise.first) [
        | yes early ↦
            let rows : i ≤ n = omega arith in
            omega (arith, above_stays i early, sum_inside after n i rows, sum_inside limit n i rows, lowered_rises_within i k)
        | no late ↦
            let same = lowered_agrees after limit n i k inside (λ last hl under. r.elsewhere i last (λ e. late (omega arith))) in
            omega arith
      ]

  sum_rises_within : (k : ℕ) → total (take k (shared after n)) ≤ total (take k (shared limit n)) + raise.newtons
  unfolding sum_down_to forces_down_to
  sum_rises_within k =
      let within = sums_within limit n (sum_down_to after n) raise.newtons (omega arith) allowed_rises_within (min k n) (omega arith) in
      omega (arith, sum_shared after n k, sum_shared limit n k)

  moment_rises_within : (levers : List ℕ) → Falling levers n
      → moment levers (shared after n) ≤ moment levers (shared limit n) + raise.newtons * get_or levers raise.first 0
  moment_rises_within levers f =
      moment-within raise.first levers (shared limit n) (shared after n) raise.newtons _ (falling_from levers n _ f (le_refl _))
      ((shared_competes limit n).rows ∙ sym f.rows) ((shared_competes after n).rows ∙ sym f.rows) above_stays
      (λ k. let rise = sum_rises_within k in omega arith)

  -- Each clause follows from its law by arithmetic, so one that says too much is refused with figures.
  moved_within : MovesWithin raise n (shared limit n) (shared after n)
  moved_within =
      record {
        above_stays = λ k h. omega (arith, above_stays k (omega arith));
        sum_falls_nowhere = λ k. omega (arith, sum_le_shared _ n (shared limit n) still_competes k);
        sum_rises_within = λ k. omega (arith, sum_rises_within k);
        moment_falls_nowhere = λ levers f. omega (arith, moment_le_shared _ n (shared limit n) still_competes levers f);
        moment_rises_within = λ levers f. omega (arith, moment_rises_within levers f);
      }

pub moves_within : (raise : Raise) (limit : Table) (n : ℕ) → SharedMovesWithin raise limit n
moves_within raise limit n = moved_within raise limit (raised raise limit) (by_raised raise limit) n

-- Below the reference the same holds of the limits with the added ones: a limit that is the lesser of two rises by no more than either.
module _ (raise : Raise) (t : Triangle) (limit : Table) (n : ℕ) (below : t.reference < raise.first) where
  force_stays : reference_force t (raised raise limit) n ≡ reference_force t limit n
  force_stays =
      force_agrees (raised raise limit) limit n t.reference (λ i j early h inside. (by_raised raise limit).elsewhere i j (λ e. omega arith))

  added_raised : (force : ℕ) → RaisedBy raise (with_added t force limit) (with_added t force (raised raise limit))
  unfolding with_added
  added_raised force = record {
    within = λ i j. let up = (by_raised raise limit).within i j in least (ltb t.reference i && eqb i j) _ _ (added_limit t force i) up.0 up.1;
    elsewhere = λ i j other.
        ap (λ l. cond (ltb t.reference i && eqb i j) (min l (added_limit t force i)) l) ((by_raised raise limit).elsewhere i j other);
  }
    where
      least : (s : Bool) (l up a : ℕ) → l ≤ up → up ≤ l + raise.newtons
          → (cond s (min l a) l ≤ cond s (min up a) up) × (cond s (min up a) up ≤ cond s (min l a) l + raise.newtons)
      least true l up a low high = (omega arith, omega arith)
      least false l up a low high = (low, high)

pub moves_within_triangle : (raise : Raise) (t : Triangle) (limit : Table) (n : ℕ) → MovesWithinTriangle raise t limit n
moves_within_triangle raise t limit n below =
    let inside : t.reference < raise.first = omega arith in
    rw (force_stays raise t limit n inside) (moved_within raise _ _ (added_raised raise t limit n inside (reference_force t limit n)) n)
