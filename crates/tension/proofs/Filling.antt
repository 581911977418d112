-- A table filled row by row in Allocate's order: a row's limits stand at the front of what is left of the table, and those of the rows
-- below it after them. Assumes nothing.
use mathlib.Core.Path.{◌≡◌, refl, sym, ap, ◌∙◌}
use mathlib.Core.Logic.{⊎_elim}
use Prim.Native.Nat.{ℕ, zero-le, suc, ◌+◌, ◌-◌, ◌≤◌, ◌<◌}
use native.Mathlib.Nat.{eq-or-lt_of_le, sub-zero}
use native.Mathlib.Numerals.{add-one}
use native.Mathlib.Omega.{arith}
use mathlib.Core.List.{List, ◌++◌}
use lib.ListN.{length, get_or, drop}
use Rattle.std.proofs.lemmas.List.{get_or_append_left, get_or-append_right, get_or-drop}
use Rattle.arithmetic.proofs.Tests.{split}
use Rattle.sharing.specs.Groups.{Table, groups_above, place_of, group_count, listed, most_limit}
use Rattle.sharing.proofs.Places.{all_groups, groups_inside, groups_grow}
use Rattle.tension.specs.Admissible.{table_places, FilledFrom, TableFilled}

module _ (n : ℕ) (limit : Table) where
  -- below the last row there is no group
  pub finish : (row : ℕ) (table : List ℕ) → row ≡ n → FilledFrom n limit row table table
  finish row table past =
      let all = ap (groups_above n) past in
      record {
        agrees = λ i j below h inside. absurd (omega arith);
        bounded = λ k earlier. absurd (omega (arith, all, all_groups n));
        untouched = λ k later. refl;
      }

  -- a row's own limits, and then those of the rows below it
  module _ (row : ℕ) (inside : row < n) (entry own further : List ℕ) (size : length own ≡ n - row)
      (own_limits : (k : ℕ) → k < n - row → get_or own k 0 ≡ limit row (row + k))
      (small : (k : ℕ) → k < n - row → get_or own k 0 ≤ most_limit)
      (f : FilledFrom n limit (suc row) (drop (n - row) entry) further) where
    next : groups_above n (suc row) ≡ groups_above n row + (n - row)
    unfolding groups_above
    next = refl

    -- past the row's own places
    past : (k : ℕ) → n - row ≤ k → get_or (own ++ further) k 0 ≡ get_or further (k - (n - row)) 0
    past k h = get_or-append_right own further (n - row) k 0 size h

    pub row_more : FilledFrom n limit row entry (own ++ further)
    row_more =
        record {
          agrees = λ i j below h under.
              ⊎_elim
              (λ here.
              let place : place_of n i j - groups_above n row ≡ j - row = omega (arith, ap (groups_above n) here) in
              let along : row + (j - row) ≡ j = omega arith in
              ap (λ p. get_or (own ++ further) p 0) place ∙ get_or_append_left own further 0 (j - row) (omega arith)
              ∙ own_limits (j - row) (omega arith) ∙ λ t. limit (here t) (along t))
              (λ lower.
              let rows : suc row + (i - suc row) ≡ i = omega arith in
              let after = groups_grow n (suc row) (i - suc row) in
              let grown : groups_above n row + (n - row) ≤ groups_above n i = omega (arith, after, next, ap (groups_above n) rows) in
              let place : place_of n i j - groups_above n row - (n - row) ≡ place_of n i j - groups_above n (suc row) = omega (arith, next) in
              past (place_of n i j - groups_above n row) (omega (arith, grown)) ∙ ap (λ p. get_or further p 0) place ∙ f.agrees i j lower h under)
              (eq-or-lt_of_le below);
          bounded = λ k earlier.
              ⊎_elim
              (λ first. omega (arith, get_or_append_left own further 0 k (omega arith), small k first))
              (λ later. omega (arith, past k later, f.bounded (k - (n - row)) (omega (arith, next))))
              (split k (n - row));
          untouched = λ k later.
              let below : n - row ≤ k = omega (arith, groups_inside n row inside) in
              let along : n - row + (k - (n - row)) ≡ k = omega arith in
              past k below ∙ f.untouched (k - (n - row)) (omega (arith, next)) ∙ get_or-drop (n - row) entry (k - (n - row)) 0
              ∙ ap (λ p. get_or entry p 0) along;
        }

  -- from the first row on it is the whole table
  pub whole : (entry exit : List ℕ) → length exit ≡ table_places → FilledFrom n limit 0 entry exit → TableFilled n limit entry exit
  unfolding listed groups_above
  whole entry exit size f =
      record {
        size = size;
        agrees = λ i j h inside. ap (λ p. get_or exit p 0) (sym (sub-zero (place_of n i j))) ∙ f.agrees i j zero-le h inside;
        bounded = λ k earlier. f.bounded k (omega (arith, earlier));
        untouched = λ k later. f.untouched k (omega (arith, later));
      }

-- the rows below have their places
pub room_below : (n row room : ℕ) → row < n → group_count n ≤ groups_above n row + room
    → (n - row ≤ room) × (group_count n ≤ groups_above n (row + 1) + (room - (n - row)))
unfolding groups_above
room_below n row room inside room_is =
    let own = groups_inside n row inside in
    let first : n - row ≤ room = omega (arith, own) in
    (first, rw (add-one row) (omega (arith, first)))

-- where no place was above the greatest limit, none is: for Work, which lends zeros
pub none_above : {n : ℕ} {limit : Table} {entry exit : List ℕ} → TableFilled n limit entry exit
    → ((k : ℕ) → get_or entry k 0 ≤ most_limit) → (k : ℕ) → get_or exit k 0 ≤ most_limit
none_above {n} f small k =
    ⊎_elim (λ of-a-group. f.bounded k of-a-group) (λ past. omega (arith, f.untouched k past, small k)) (split k (group_count n))
