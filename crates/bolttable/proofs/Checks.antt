-- Loading's one pass over a table's sizes: a size in range leaves its own part of each test, and those after it the rest. Assumes nothing.
use mathlib.Core.Path.{◌≡◌, refl, sym, ◌∙◌}
use mathlib.Core.Bool.{Bool, true, false, ◌&&◌, and_assoc, and-true}
use mathlib.Core.List.{List, [], ◌∷◌}
use Prim.Native.Nat.{ℕ}
use native.Mathlib.Omega.{arith}
use borrow.Author.Tests.{lt-ltb}
use lib.Dec.{T, ltb}
use mir.Facts.{and_yes}
use Rattle.arithmetic.specs.Checks.{first_failing}
use Rattle.arithmetic.specs.Range.{within}
use Rattle.bolttable.specs.Loading.{Size, size_counts, counted_sizes, each_size, size_in_range, rise_above, diameters_rise, area_fits}
use Rattle.bolttable.specs.Loading.{table_refusals, table_check, Taken, Refused}
use Rattle.bolttable.specs.declared.BoltTable.{BoltTable}
use Rattle.bolttable.specs.Steps.{below_least, sizes_check}
use Rattle.bolttable.proofs.Areas.{size_ranges}

-- ---- a table by its count

module _ (table : BoltTable) where
  pub by_count : within size_counts table.count ≡ false → Refused 16 ≡ table_check table
  unfolding table_check table_refusals first_failing
  by_count bad = rw bad

  pub by_sizes : within size_counts table.count ≡ true → sizes_check (counted_sizes table) ≡ table_check table
  unfolding sizes_check table_check table_refusals first_failing
  by_sizes good = rw good

-- ---- the first size has none before it: being in range, it is above the least less one

pub from_first : (sizes : List Size) → T (each_size size_in_range sizes) → rise_above below_least sizes ≡ diameters_rise sizes
unfolding rise_above
from_first [] own = refl
from_first (size ∷ sizes) own =
    let low = (size_ranges size (and_yes (size_in_range size) (each_size size_in_range sizes) own).0).0.low in
    rw (lt-ltb below_least size.diameter (omega arith))

-- ---- one size after another

-- what the sizes before a place leave of the tests: of the ranges nothing, and of the others whether they passed
pub record Passed (sizes left : List Size) (last : ℕ) (rise fit : Bool) : Type 0 where
  pub ranges : each_size size_in_range sizes ≡ each_size size_in_range left
  pub rises : rise_above below_least sizes ≡ (rise && rise_above last left)
  pub fits : each_size area_fits sizes ≡ (fit && each_size area_fits left)

module _ {sizes left : List Size} {last : ℕ} {rise fit : Bool} (p : Passed sizes left last rise fit) where
  -- the next size is out of range
  pub one_outside : {size : Size} {rest : List Size} → left ≡ size ∷ rest → size_in_range size ≡ false → Refused 16 ≡ sizes_check sizes
  unfolding sizes_check first_failing
  one_outside e outside = rw (p.ranges, e, outside)

  -- or it isn't, and its other tests are kept
  pub one_more : {size : Size} {rest : List Size} → left ≡ size ∷ rest → size_in_range size ≡ true
      → Passed sizes rest size.diameter (rise && ltb last size.diameter) (fit && area_fits size)
  unfolding rise_above
  one_more {size} {rest} e inside =
      record {
        ranges = p.ranges ∙ (rw (e, inside));
        rises = p.rises ∙ (rw e) ∙ sym (and_assoc rise (ltb last size.diameter) (rise_above size.diameter rest));
        fits = p.fits ∙ (rw e) ∙ sym (and_assoc fit (area_fits size) (each_size area_fits rest));
      }

  -- after the last the tests that were kept decide
  pub none_after : left ≡ [] → sizes_check sizes ≡ first_failing Taken Refused ((17, rise) ∷ (18, fit) ∷ [])
  unfolding sizes_check first_failing rise_above
  none_after end =
      let own : each_size size_in_range sizes ≡ true = p.ranges ∙ (rw end) in
      let rises : rise_above below_least sizes ≡ rise = p.rises ∙ (rw end) ∙ and-true rise in
      rw (own, ← from_first sizes (rw own tt), rises, p.fits ∙ (rw end) ∙ and-true fit)
