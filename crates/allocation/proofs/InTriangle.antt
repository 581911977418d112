-- Sharing in a triangle or without: the limits that are shared are the list's, of which the triangle lowers those of single rows, and what
-- it adds on a row is worked from forces of which the reference row's is final. Assumes nothing.
use Rattle.std.specs.Prelude.{Option, Some, None, unwrap_or, IfSome}
use Rattle.std.proofs.Math.ListN.{get_or-append}
use mathlib.Core.Path.{◌≡◌, refl, sym, ap, ◌∙◌}
use mathlib.Core.Bool.{Bool, true, false, cond}
use Prim.Native.Nat.{ℕ, ◌*◌, ◌≤◌, ◌<◌, min}
use native.Mathlib.Nat.{le_refl, le_trans, mul-le-mul, div-le_self}
use native.Mathlib.Omega.{arith}
use mathlib.Core.List.{List}
use lib.ListN.{get_or, take}
use lib.Seq.{get_or-take}
use lib.Dec.{ltb}
use borrow.Author.Tests.{ltb-true, ltb-false}
use Rattle.joint.specs.Ranges.{most_lever}
use Rattle.sharing.specs.Groups.{Table, listed, most_limit}
use Rattle.sharing.specs.Sharing.{forces_down_to, shared}
use Rattle.sharing.specs.Triangle.{Triangle, added_limit, with_added, reference_force, limits_in}
use Rattle.sharing.proofs.Sums.{length_forces, take_shared}
use Rattle.sharing.proofs.Triangle.{added_elsewhere, added_on_row, added_le, reference_force_stays}
use Rattle.allocation.specs.Steps.{Shareable, AddedAsked, added_on}
use Rattle.allocation.proofs.Rows.{RowsLowered, SharedDownTo, limit_le_most}

module _ {n : ℕ} {limits : List ℕ} where
  pub rows_lowered : (triangle : Option Triangle) → RowsLowered n limits (limits_in triangle (listed n limits) n)
  rows_lowered None = record { longer = λ i j h inside. refl; single = λ row inside. le_refl _ }
  rows_lowered (Some t) = record {
    longer = λ i j h inside. added_elsewhere t _ _ i j (λ below same. omega arith);
    single = λ row inside. added_le t _ _ row row;
  }

  -- of the rows that have their forces, each place has its row's
  force_in_place : {table : Table} {forces sums : List ℕ} {above : ℕ} {rest : List ℕ} {row : ℕ}
      → SharedDownTo n limits table forces sums above rest row → (k : ℕ) → k < row → get_or forces k 0 ≡ get_or (shared table n) k 0
  force_in_place {table = table} {row = row} d k early =
      let rows : min row n ≡ row = omega (arith, d.rows) in
      let got : take row (shared table n) ≡ forces_down_to table n row = rw rows at (take_shared table n row) in
      ap (λ xs. get_or xs k 0) d.got
      ∙ get_or-append (forces_down_to table n row) _ 0 k (omega (arith, length_forces table n row))
      ∙ ap (λ xs. get_or xs k 0) (sym got)
      ∙ get_or-take row (shared table n) k 0 early

  module _ (s : Shareable n limits) {row : ℕ} (inside : row < n) where
    by_the_list : listed n limits row row ≡ min (listed n limits row row) most_limit
    by_the_list = omega (arith, limit_le_most n limits s row row (le_refl row) inside)

    -- the limit of the row alone is its limit in the list, or the lesser one that the triangle adds
    pub single_limit : (triangle : Option Triangle) {forces sums : List ℕ} {above : ℕ} {rest : List ℕ}
        → SharedDownTo n limits (limits_in triangle (listed n limits) n) forces sums above rest row
        → limits_in triangle (listed n limits) n row row ≡ min (listed n limits row row) (unwrap_or (added_on triangle forces row) most_limit)
    single_limit None d = by_the_list
    single_limit (Some t) {forces = forces} d = go (ltb t.reference row) refl
      where
        go : (below : Bool) → ltb t.reference row ≡ below
            → with_added t (reference_force t (listed n limits) n) (listed n limits) row row
            ≡ min (listed n limits row row) (unwrap_or (cond below (Some (added_limit t (get_or forces t.reference 0) row)) None) most_limit)
        go true e =
            let below = ltb-true _ _ e in
            added_on_row t _ _ row below
            ∙ ap (λ force. min (listed n limits row row) (added_limit t force row))
            (sym (force_in_place d t.reference below ∙ reference_force_stays t _ _ n))
        go false e = added_elsewhere t _ _ row row (λ below same. absurd (omega (arith, ltb-false _ _ e))) ∙ by_the_list

-- An added limit is no larger than a product that can be held.
pub added_small : (triangle : Option Triangle) (forces : List ℕ) (row : ℕ) → AddedAsked triangle forces row
    → IfSome (added_on triangle forces row) (λ added. added ≤ most_limit * most_lever)
added_small None forces row asked = tt
added_small (Some t) forces row asked = go (ltb t.reference row)
  where
    product : get_or forces t.reference 0 * get_or t.levers row 0 ≤ most_limit * most_lever
    product = mul-le-mul (asked.bounded t.reference) (asked.fits.high row asked.inside)

    go : (below : Bool)
        → IfSome (cond below (Some (added_limit t (get_or forces t.reference 0) row)) None) (λ added. added ≤ most_limit * most_lever)
    go true = le_trans (div-le_self _ _) product
    go false = tt
