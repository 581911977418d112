-- What a table that is refused lists, and one that is taken, and how large it can be. By induction over the sizes. Assumes nothing.
use mathlib.Core.Path.{◌≡◌, refl}
use mathlib.Core.Bool.{Bool, true, false, cond}
use mathlib.Core.List.{List, [], ◌∷◌}
use Rattle.std.specs.Prelude.{Some, None}
use Prim.Native.Nat.{ℕ, ◌≤◌, zero-le}
use native.Mathlib.Nat.{le_trans}
use native.Mathlib.Omega.{arith}
use borrow.Author.Tests.{eqb-true}
use lib.Dec.{T, eqb, leb→le}
use mir.Facts.{and_yes}
use Rattle.arithmetic.specs.Range.{Within, within}
use Rattle.arithmetic.proofs.Bounds.{exactly, at_most, ◌⊗◌, ◌⊘◌, within_yes}
use Rattle.arithmetic.proofs.Checks.{all_hold}
use Rattle.bolttable.specs.Loading.{Size, bolt_diameters, bolt_areas, size_counts, counted_sizes, each_size, size_in_range}
use Rattle.bolttable.specs.Loading.{diameters_rise, area_fits, table_refusals, table_check, TableCheck, Taken, Refused}
use Rattle.bolttable.specs.Area.{sizes_by, area_among, area_of}
use Rattle.bolttable.specs.InRange.{AreaInRange, most_area}
use Rattle.bolttable.specs.declared.BoltTable.{BoltTable}

-- ---- a table that is refused has no sizes, and one that is taken those that it counts

module _ (table : BoltTable) (diameter : ℕ) where
  pub if_refused : {number : ℕ} → table_check table ≡ Refused number → None ≡ area_of table diameter
  unfolding area_of area_among
  if_refused e = rw e

  pub if_taken : table_check table ≡ Taken → area_among diameter (counted_sizes table) ≡ area_of table diameter
  unfolding area_of
  if_taken e = rw e

-- ---- what holds of a table that is taken

apart : (number : ℕ) → Taken ≡ Refused number → ⊥
apart number e = let never : ◌≡◌ {A = ℕ} 0 1 = cc in omega arith

module _ (table : BoltTable) (e : table_check table ≡ Taken) where
  pub sizes_in_range : T (each_size size_in_range (counted_sizes table))
  unfolding table_check table_refusals
  sizes_in_range =
      (and_yes (within size_counts table.count) (each_size size_in_range (counted_sizes table))
      (all_hold Taken Refused apart (table_refusals table) e 0)).1

  pub sizes_rise : T (diameters_rise (counted_sizes table))
  unfolding table_check table_refusals
  sizes_rise = all_hold Taken Refused apart (table_refusals table) e 1

  pub areas_fit : T (each_size area_fits (counted_sizes table))
  unfolding table_check table_refusals
  areas_fit = all_hold Taken Refused apart (table_refusals table) e 2

-- ---- how large what it lists can be

-- what the test of a size's numbers says
pub size_ranges : (size : Size) → T (size_in_range size) → Within bolt_diameters size.diameter × Within bolt_areas size.area
size_ranges size own =
    let both = and_yes (within bolt_diameters size.diameter) (within bolt_areas size.area) own in
    (within_yes bolt_diameters size.diameter both.0, within_yes bolt_areas size.area both.1)

area_small : (size : Size) → T (size_in_range size) → T (area_fits size) → size.area ≤ most_area
area_small size own fit =
    let diameter = (size_ranges size own).0 in
    le_trans (leb→le _ _ fit) (exactly 785 ⊗ diameter ⊗ diameter ⊘ 100).high

among_in_range : (diameter : ℕ) (sizes : List Size) → T (each_size size_in_range sizes) → T (each_size area_fits sizes)
    → AreaInRange diameter (area_among diameter sizes)
unfolding area_among
among_in_range diameter [] in_range fits = record { listed = λ never. absurd never; most = at_most zero-le }
among_in_range diameter (size ∷ sizes) in_range fits =
    let ranges = and_yes (size_in_range size) (each_size size_in_range sizes) in_range in
    let areas = and_yes (area_fits size) (each_size area_fits sizes) fits in
    by_test (eqb diameter size.diameter) refl ranges.0 areas.0 (among_in_range diameter sizes ranges.1 areas.1)
  where
    by_test : (same : Bool) → eqb diameter size.diameter ≡ same → T (size_in_range size) → T (area_fits size)
        → AreaInRange diameter (area_among diameter sizes)
        → AreaInRange diameter (cond same (Some size.area) (area_among diameter sizes))
    by_test true e own fit rest = record {
      listed = λ yes. rw (eqb-true diameter size.diameter e) (size_ranges size own).0;
      most = at_most (area_small size own fit);
    }
    by_test false e own fit rest = rest

-- whatever the table
pub area_in_range : (table : BoltTable) (diameter : ℕ) → AreaInRange diameter (area_of table diameter)
unfolding area_of area_among
area_in_range table diameter = by_check (table_check table) refl
  where
    by_check : (check : TableCheck) → table_check table ≡ check
        → AreaInRange diameter (area_among diameter (sizes_by check (counted_sizes table)))
    by_check Taken e = among_in_range diameter (counted_sizes table) (sizes_in_range table e) (areas_fit table e)
    by_check (Refused number) e = record { listed = λ never. absurd never; most = at_most zero-le }
