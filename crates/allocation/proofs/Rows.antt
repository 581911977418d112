-- Sharing row by row. When the groups of every row down to k are counted, the sum down to row k is the shared one: it is at most
-- what each group allows, and nothing larger is. So the next row's force is that sum less what the rows above have got. The list's limits
-- are counted; the table that is shared may have lower ones on single rows, as a triangle adds them, and then a row's sum is held to its own
-- as well. Assumes nothing.
use mathlib.Core.Path.{◌≡◌, refl, sym, ap, ap₂, ◌∙◌}
use mathlib.Core.Logic.{⊎_elim}
use Prim.Native.Nat.{ℕ, zero, suc, ◌+◌, ◌-◌, ◌^◌, ◌≤◌, ◌<◌, min}
use native.Mathlib.Nat.{le_of_eq, eq-or-lt_of_le, le_refl, le_trans, le_antisymm, le-min, min-le_left, min-le_right, le-suc_iff}
use native.Mathlib.Omega.{arith}
use native.Mathlib.Numerals.{add-one}
use mathlib.Core.List.{List, [], ◌∷◌, ◌++◌}
use lib.Dec.{lit≤}
use lib.ListN.{length, get_or, set, take, drop, replicate, get_or-replicate}
use lib.Seq.{set_at, append_snoc}
use Rattle.std.proofs.Common.{length-drop, drop-drop}
use Rattle.std.proofs.lemmas.List.{length-take-le, get_or-take, get_or-drop}
use Rattle.sharing.specs.Groups.{Table, total, groups_above, place_of, listed, most_limit}
use Rattle.sharing.proofs.Places.{groups_inside}
use Rattle.sharing.proofs.Totals.{total-append}
use Rattle.sharing.specs.Sharing.{lowered, next_force, forces_down_to, shared}
use Rattle.sharing.proofs.Lowering.{lowered_le, lowered_last, lowered_next}
use Rattle.sharing.proofs.Sums.{sum_down_to, length_forces, sum_step, sum_le, le_sum}
use Rattle.joint.specs.Ranges.{row_counts}
use Rattle.joint.specs.Places.{eight_places}
use Rattle.sharing.proofs.Agreement.{lowered_agrees}
use Rattle.allocation.specs.Steps.{Shareable, own_table, Countable, Counted}

-- more than any sum: where a sum begins, before a group is counted into it
abbrev pub unbounded : ℕ
unbounded = 2 ^ 64 - 1

-- What the groups that begin at the first r rows allow the sum down to row k to be.
unfoldable pub allowed : Table → ℕ → ℕ → ℕ → ℕ
allowed limit n zero k = unbounded
allowed limit n (suc r) k = min (allowed limit n r k) (sum_down_to limit n r + lowered limit n r k)

-- A table of the list's limits, of which those of single rows may be lower.
pub record RowsLowered (n : ℕ) (limits : List ℕ) (table : Table) : Type 0 where
  pub longer : (i j : ℕ) → i < j → j < n → table i j ≡ listed n limits i j
  pub single : (row : ℕ) → row < n → table row row ≤ listed n limits row row

-- How things stand when `row` rows have their forces.
pub record SharedDownTo (n : ℕ) (limits : List ℕ) (table : Table) (forces sums : List ℕ) (above : ℕ) (rest : List ℕ) (row : ℕ)
    : Type 0 where
  pub rows : row ≤ n
  pub place : rest ≡ drop (groups_above n row) limits
  pub sum : above ≡ sum_down_to table n row
  pub got : forces ≡ forces_down_to table n row ++ replicate (row_counts.high - row) 0
  pub size : length sums ≡ row_counts.high
  pub left : (k : ℕ) → row ≤ k → k < n → get_or sums k 0 ≡ allowed table n row k

-- no number of a list is above their sum, and places that are 0 add nothing
at_most_total : (xs : List ℕ) (k : ℕ) → get_or xs k 0 ≤ total xs
at_most_total [] k = omega arith
at_most_total (x ∷ xs) zero = omega arith
at_most_total (x ∷ xs) (suc k) = omega (arith, at_most_total xs k)

total_zeros : (m : ℕ) → total (replicate m 0) ≡ 0
total_zeros zero = refl
total_zeros (suc m) = omega (arith, total_zeros m)

-- the first of the empty places is filled
fill : (got : List ℕ) (row empty value : ℕ) → length got ≡ row
    → set (got ++ replicate (suc empty) 0) row value ≡ (got ++ (value ∷ [])) ++ replicate empty 0
fill got row empty value e =
    set_at got 0 (replicate empty 0) value row e ∙ sym (append_snoc got value (replicate empty 0))

pub limit_le_most : (n : ℕ) (limits : List ℕ) → Shareable n limits → (i j : ℕ) → i ≤ j → j < n → listed n limits i j ≤ most_limit
unfolding listed
limit_le_most n limits s i j h inside = s.bounded (place_of n i j) (omega (arith, groups_inside n i (omega arith)))

module _ {n : ℕ} {limits : List ℕ} {table : Table} (s : Shareable n limits) (t : RowsLowered n limits table) where
  table_le : (i j : ℕ) → i ≤ j → j < n → table i j ≤ listed n limits i j
  table_le i j h inside =
      ⊎_elim (λ same. rw (← same) (t.single i (omega arith))) (λ longer. le_of_eq (t.longer i j longer inside)) (eq-or-lt_of_le h)

  pub sum_le_most : (k : ℕ) → k ≤ n → sum_down_to table n k ≤ most_limit
  unfolding sum_down_to forces_down_to
  sum_le_most zero h = omega arith
  sum_le_most (suc k) h =
      omega (arith, sum_le table n k 0 h (omega arith), lowered_le table n 0 k, table_le 0 k (omega arith) h, limit_le_most n limits s 0 k (omega arith) h)

  -- the groups down to row r allow the shared sum
  sum_le_allowed : (k r : ℕ) → r ≤ suc k → k < n → sum_down_to table n (suc k) ≤ allowed table n r k
  unfolding allowed
  sum_le_allowed k zero h inside = le_trans (sum_le_most (suc k) inside) (lit≤ tt)
  sum_le_allowed k (suc r) h inside =
      le-min (sum_le_allowed k r (omega arith) inside) (sum_le table n k r inside (omega arith))

  allowed_le : (k r i : ℕ) → i < r → allowed table n r k ≤ sum_down_to table n i + lowered table n i k
  unfolding allowed
  allowed_le k zero i h = absurd (omega arith)
  allowed_le k (suc r) i h =
      ⊎_elim
      (λ below. le_trans (min-le_left _ _) (allowed_le k r i below))
      (λ last. let same : i ≡ r = omega arith in rw same (min-le_right _ _))
      (le-suc_iff.0 h)

  -- all its groups allow no more
  allowed_is_sum : (k : ℕ) → k < n → allowed table n (suc k) k ≡ sum_down_to table n (suc k)
  allowed_is_sum k inside =
      le_antisymm
      (le_sum table n k _ (λ i h. allowed_le k (suc k) i (omega arith)))
      (sum_le_allowed k (suc k) (le_refl (suc k)) inside)

  pub start : SharedDownTo n limits table (replicate row_counts.high 0) (replicate row_counts.high unbounded) 0 limits 0
  unfolding sum_down_to forces_down_to groups_above allowed
  start =
      record {
        rows = omega arith;
        place = refl;
        sum = refl;
        got = refl;
        size = refl;
        left = λ k h inside. get_or-replicate row_counts.high k unbounded 0 (omega (arith, s.rows));
      }

  module _ {forces sums : List ℕ} {above : ℕ} {rest : List ℕ} {row : ℕ} (d : SharedDownTo n limits table forces sums above rest row)
      (inside : row < n) where
    pub rest_length : n - row ≤ length rest
    rest_length = omega (arith, ap length d.place, length-drop (groups_above n row) limits, groups_inside n row inside, s.enough)

    -- no force is too large yet
    pub forces_le_most : (k : ℕ) → get_or forces k 0 ≤ most_limit
    unfolding sum_down_to
    forces_le_most k =
        rw d.got
        (let got = forces_down_to table n row in
        let empty : List ℕ = replicate (row_counts.high - row) 0 in
        omega (arith, sum_le_most row d.rows, at_most_total (got ++ empty) k, total-append got empty, total_zeros (row_counts.high - row)))

    module _ {own : List ℕ} (e : own ≡ take (n - row) rest) where
      -- the limits of the groups that begin at the row are the first of those that are left
      own_limit : (j : ℕ) → row ≤ j → j < n → get_or own (j - row) 0 ≡ listed n limits row j
      unfolding listed
      own_limit j h under =
          ap (λ xs. get_or xs (j - row) 0) e
          ∙ get_or-take (n - row) rest (j - row) 0 (omega arith)
          ∙ ap (λ xs. get_or xs (j - row) 0) d.place
          ∙ get_or-drop (groups_above n row) limits (j - row) 0

      pub countable : Countable own row n above
      countable = record {
        inside = inside;
        rows = s.rows;
        places = omega (arith, ap length e, length-take-le (n - row) rest rest_length);
        bounded = λ k h.
            let along : row + k - row ≡ k = omega arith in
            let limit = rw along at (own_limit (row + k) (omega arith) (omega arith)) in
            rw limit (limit_le_most n limits s row (row + k) (omega arith) (omega arith));
        small = omega (arith, d.sum, sum_le_most row d.rows);
      }

      -- a longer group's lowered limit is the list's
      longer_lowered : (k : ℕ) → row < k → k < n → lowered (own_table own row) n row k ≡ lowered table n row k
      longer_lowered k h under =
          lowered_agrees (own_table own row) table n row k under
          (λ last hl under_n. own_limit last (omega arith) under_n ∙ sym (t.longer row last (omega arith) under_n))

      -- and the row's own is lower by the most that it gets by itself
      own_lowered : (most : ℕ) → table row row ≡ min (listed n limits row row) most
          → lowered table n row row ≡ min (lowered (own_table own row) n row row) most
      own_lowered most lower =
          let limit = own_limit row (le_refl row) inside in
          ⊎_elim
          (λ last. omega (arith, lowered_last table n row row last, lowered_last (own_table own row) n row row last, limit, lower))
          (λ longer.
          omega (
            arith,
            lowered_next table n row row longer,
            lowered_next (own_table own row) n row row longer,
            limit,
            lower,
            longer_lowered (suc row) (omega arith) longer,
          ))
          (eq-or-lt_of_le inside)

      module _ {sums' : List ℕ} (c : Counted (own_table own row) n row above row sums sums') where
        counted_is_allowed : (k : ℕ) → row < k → k < n → get_or sums' k 0 ≡ allowed table n (suc row) k
        unfolding allowed
        counted_is_allowed k h under =
            c.counted k (omega arith) under ∙ λ i. min (d.left k (omega arith) under i) (d.sum i + longer_lowered k h under i)

        -- the row's own group leaves its force no more than a limit may be
        pub counted_le : get_or sums' row 0 ≤ above + most_limit
        counted_le =
            omega (
              arith,
              c.counted row (le_refl row) inside,
              lowered_le (own_table own row) n row row,
              own_limit row (le_refl row) inside,
              limit_le_most n limits s row row (le_refl row) inside,
            )

        -- with the sum down to the row held to the most as well
        module _ (most : ℕ) {sum : ℕ} (lower : table row row ≡ min (listed n limits row row) most)
            (is : sum ≡ min (get_or sums' row 0) (above + most)) where
          down : sum ≡ sum_down_to table n (suc row)
          unfolding allowed
          down =
              omega (
                arith,
                is,
                allowed_is_sum row inside,
                c.counted row (le_refl row) inside,
                d.left row (le_refl row) inside,
                d.sum,
                own_lowered most lower,
              )

          pub down_grows : above ≤ sum
          down_grows = omega (arith, d.sum, down, sum_step table n row)

          force : sum - above ≡ next_force table n (forces_down_to table n row)
          force = omega (arith, d.sum, down, sum_step table n row)

          stored : set forces row (sum - above) ≡ forces_down_to table n (suc row) ++ replicate (row_counts.high - suc row) 0
          unfolding forces_down_to
          stored =
              let places : row_counts.high - row ≡ suc (row_counts.high - suc row) = omega (arith, inside, s.rows) in
              ap₂ (λ xs x. set xs row x) (d.got ∙ ap (λ m. forces_down_to table n row ++ replicate m 0) places) force
              ∙ fill (forces_down_to table n row) row (row_counts.high - suc row) (next_force table n (forces_down_to table n row))
              (length_forces table n row)

          pub turn : SharedDownTo n limits table (set forces row (sum - above)) sums' sum (drop (n - row) rest) (row + 1)
          unfolding groups_above
          turn =
              rw (add-one row)
              (record {
                rows = inside;
                place = ap (drop (n - row)) d.place ∙ drop-drop (n - row) (groups_above n row) limits;
                sum = down;
                got = stored;
                size = c.size ∙ d.size;
                left = λ k h under. counted_is_allowed k h under;
              })

  -- places past the last row are 0
  pub finish : {forces sums : List ℕ} {above : ℕ} {rest : List ℕ} {row : ℕ} → SharedDownTo n limits table forces sums above rest row
      → n ≤ row → forces ≡ eight_places (shared table n)
  unfolding eight_places shared
  finish {row = row} d past =
      let all : row ≡ n = omega (arith, d.rows) in
      (rw all at d.got) ∙ ap (λ m. forces_down_to table n n ++ replicate (row_counts.high - m) 0) (sym (length_forces table n n))

  -- no place has more than Allocate takes
  pub force_le_most : (k : ℕ) → get_or (eight_places (shared table n)) k 0 ≤ most_limit
  unfolding eight_places shared sum_down_to
  force_le_most k =
      let forces = forces_down_to table n n in
      let empty : List ℕ = replicate (row_counts.high - length forces) 0 in
      let sum = sum_le_most n (le_refl n) in
      omega (arith, at_most_total (forces ++ empty) k, total-append forces empty, total_zeros (row_counts.high - length forces))
