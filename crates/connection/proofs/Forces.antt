-- The limits of a joint's groups with the cap stored on group 1 to n: they agree with the limits that the cap has joined, so they
-- share alike, in a triangle or without. Group 1 to n has the n-th place, and no other group has it. Where there are no rows there is no
-- such group, and nothing is shared. Assumes nothing.
use Rattle.std.specs.Prelude.{Option}
use mathlib.Core.Path.{◌≡◌, refl, sym, ap, ap₂, ◌∙◌}
use mathlib.Core.Bool.{Bool, true, false, cond, ◌&&◌}
use Prim.Native.Nat.{ℕ, zero, suc, ◌-◌, ◌≤◌, ◌<◌, zero-le, min}
use native.Mathlib.Omega.{arith}
use mathlib.Core.List.{List, []}
use lib.ListN.{length, get_or, set, replicate, length-set}
use lib.Dec.{eqb}
use borrow.Author.Tests.{eqb-true, eqb-false}
use Rattle.arithmetic.proofs.Store.{store_keeps}
use Rattle.sharing.specs.Groups.{Table, groups_above, group_count, place_of, listed, with_cap, most_limit}
use Rattle.sharing.specs.Sharing.{shared, forces_down_to}
use Rattle.sharing.proofs.Places.{group_count_le, stored_same, stored_other}
use Rattle.sharing.specs.Triangle.{Triangle, limits_in}
use Rattle.sharing.proofs.Triangle.{shared_in_agrees}
use Rattle.joint.specs.Ranges.{row_counts}
use Rattle.allocation.specs.Steps.{Shareable}
use Rattle.tension.specs.Admissible.{table_places, TableFilled}
use Rattle.tension.proofs.Filling.{none_above}

module _ (n cap : ℕ) (limit : Table) (entry table : List ℕ) (filled : TableFilled n limit entry table) (some : 1 ≤ n)
    (few : n ≤ row_counts.high) (stored : ℕ) (lower : stored ≡ min (get_or table (n - 1) 0) cap) where
  -- group 1 to n has the n-th place
  whole : n - 1 ≡ place_of n 0 (n - 1)
  unfolding groups_above
  whole = omega arith

  agrees : (i j : ℕ) → i ≤ j → j < n → listed n (set table (n - 1) stored) i j ≡ with_cap limit n cap i j
  unfolding listed with_cap
  agrees i j h under = go (eqb i 0) (eqb (suc j) n) refl refl
    where
      other : ((i ≡ 0) × (j ≡ n - 1) → ⊥) → listed n (set table (n - 1) stored) i j ≡ limit i j
      other no_whole =
          stored_other n 0 (n - 1) (n - 1) stored table (omega arith) (omega arith) whole i j h under no_whole ∙ filled.agrees i j h under

      go : (top last : Bool) → eqb i 0 ≡ top → eqb (suc j) n ≡ last
          → listed n (set table (n - 1) stored) i j ≡ cond (top && last) (min (limit i j) cap) (limit i j)
      go true true et el =
          let top = eqb-true i 0 et in
          let end = eqb-true (suc j) n el in
          let last : j ≡ n - 1 = omega arith in
          let own = ap (λ place. get_or table place 0) (whole ∙ ap₂ (place_of n) (sym top) (sym last)) ∙ filled.agrees i j h under in
          let enough : group_count n ≤ length table = omega (arith, filled.size, group_count_le n few) in
          stored_same n 0 (n - 1) (n - 1) stored table (omega arith) (omega arith) whole enough i j top last
          ∙ lower
          ∙ ap (λ l. min l cap) own
      go true false et el = other (λ w. eqb-false (suc j) n el (omega (arith, w.1)))
      go false last et el = other (λ w. eqb-false i 0 et w.0)

  pub forces_agree : (triangle : Option Triangle)
      → shared (limits_in triangle (listed n (set table (n - 1) stored)) n) n ≡ shared (limits_in triangle (with_cap limit n cap) n) n
  forces_agree triangle = shared_in_agrees triangle _ _ n agrees

-- where there are no rows, no force is shared
pub no_forces : (limit : Table) (n : ℕ) → n ≡ 0 → shared limit n ≡ []
unfolding shared forces_down_to
no_forces limit n none = rw none refl

zeros_small : (m i : ℕ) → get_or (replicate m 0) i 0 ≤ most_limit
zeros_small zero i = zero-le
zeros_small (suc m) zero = zero-le
zeros_small (suc m) (suc i) = zeros_small m i

-- A lent table of zeros that limits were put into, with a number stored that is at most one of its places: nothing in it is too large, and
-- it has a place for each group of any count of rows.
module _ (n : ℕ) (limit : Table) (table : List ℕ) (filled : TableFilled n limit (replicate table_places 0) table) where
  pub shareable : (rows place at stored : ℕ) → rows ≤ row_counts.high → stored ≤ get_or table at 0 → Shareable rows (set table place stored)
  shareable rows place at stored few low =
      let small = none_above filled (zeros_small table_places) in
      record {
        rows = few;
        enough = omega (arith, length-set table place stored, filled.size, group_count_le rows few);
        bounded = λ k h. store_keeps most_limit table place stored k (small k) (omega (arith, small at));
      }
