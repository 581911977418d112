-- The one pass that tests a table's sizes and finds an area: it finds what the table lists, since each size may follow the one before
-- exactly where the table is taken, and then no two have one diameter. By induction over the sizes. Assumes nothing.
use mathlib.Core.Path.{◌≡◌, refl, sym, ap, subst, ◌∙◌}
use mathlib.Core.Bool.{Bool, true, false, cond, ◌&&◌}
use mathlib.Core.List.{List, [], ◌∷◌}
use Rattle.std.specs.Prelude.{Option, Some, None}
use Prim.Native.Nat.{ℕ, ◌*◌, ◌≤◌, ◌<◌}
use native.Mathlib.Nat.{le-div_iff_mul-le}
use native.Mathlib.Omega.{arith}
use borrow.Author.Tests.{ne_eqb, eqb-true}
use lib.Dec.{T, eqb, leb, ltb, leb→le, le→leb, ltb→lt, lt→ltb}
use mir.Facts.{and_yes, yes_and}
use Rattle.arithmetic.specs.Checks.{first_failing}
use Rattle.arithmetic.specs.Range.{Within, within}
use Rattle.arithmetic.proofs.Bounds.{exactly, ◌⊗◌}
use Rattle.bolttable.specs.Loading.{Size, bolt_diameters, bolt_areas, size_counts, counted_sizes, each_size, size_in_range}
use Rattle.bolttable.specs.Loading.{rise_above, area_fits, table_refusals, table_check, TableCheck, Taken, Refused}
use Rattle.bolttable.specs.Area.{area_among, area_of}
use Rattle.bolttable.specs.Steps.{below_least, may_follow, area_passed}
use Rattle.bolttable.specs.declared.BoltTable.{BoltTable}
use Rattle.bolttable.proofs.Areas.{size_ranges, if_refused, if_taken, sizes_in_range, areas_fit, sizes_rise}
use Rattle.bolttable.proofs.Checks.{from_first}

-- ---- a size that may follow

-- what is known of it
record Follows (last : ℕ) (size : Size) : Type 0 where
  above : last < size.diameter
  diameter_most : size.diameter ≤ bolt_diameters.high
  some_area : 1 ≤ size.area
  area_most : 100 * size.area ≤ 785 * size.diameter * size.diameter

follows : (last : ℕ) (size : Size) → T (may_follow last size) → Follows last size
follows last size t =
    let halves = and_yes (ltb last size.diameter && leb size.diameter bolt_diameters.high) _ t in
    let diameters = and_yes (ltb last size.diameter) _ halves.0 in
    let areas = and_yes (leb 1 size.area) _ halves.1 in
    record {
      above = ltb→lt _ _ diameters.0;
      diameter_most = leb→le _ _ diameters.1;
      some_area = leb→le _ _ areas.0;
      area_most = leb→le _ _ areas.1;
    }

may : (last : ℕ) (size : Size) → Follows last size → T (may_follow last size)
may last size f =
    yes_and (ltb last size.diameter && leb size.diameter bolt_diameters.high) _
    (yes_and (ltb last size.diameter) _ (lt→ltb _ _ f.above) (le→leb _ _ f.diameter_most))
    (yes_and (leb 1 size.area) _ (le→leb _ _ f.some_area) (le→leb _ _ f.area_most))

-- so it is in range and its area fits, where the one before isn't below the least less one
in_range : (last : ℕ) (size : Size) → below_least ≤ last → Follows last size → T (size_in_range size)
in_range last size low f =
    let diameter : Within bolt_diameters size.diameter = record { low = omega (arith, f.above); high = f.diameter_most } in
    let most = (exactly 785 ⊗ diameter ⊗ diameter).high in
    yes_and (within bolt_diameters size.diameter) (within bolt_areas size.area)
    (yes_and (leb bolt_diameters.low size.diameter) (leb size.diameter bolt_diameters.high)
    (le→leb _ _ diameter.low) (le→leb _ _ diameter.high))
    (yes_and (leb bolt_areas.low size.area) (leb size.area bolt_areas.high) (le→leb _ _ f.some_area)
    (le→leb size.area bolt_areas.high (omega (arith, f.area_most, most))))

fits : (last : ℕ) (size : Size) → Follows last size → T (area_fits size)
fits last size f =
    let most : size.area * 100 ≤ 785 * size.diameter * size.diameter = omega (arith, f.area_most) in
    le→leb _ _ ((le-div_iff_mul-le {k = 100} (omega arith)).1 most)

-- and a size in range whose area fits may follow any that it is above
may_follow_lem : (last : ℕ) (size : Size) → T (size_in_range size) → T (ltb last size.diameter) → T (area_fits size)
    → T (may_follow last size)
may_follow_lem last size own rises fit =
    let ranges = size_ranges size own in
    may last size
    (record {
      above = ltb→lt _ _ rises;
      diameter_most = ranges.0.high;
      some_area = ranges.1.low;
      area_most = omega (arith, (le-div_iff_mul-le {k = 100} (omega arith)).0 (leb→le size.area _ fit));
    })

-- ---- sizes that each may follow the one before

chain : (last : ℕ) → List Size → Bool
chain last [] = true
chain last (size ∷ sizes) = may_follow last size && chain size.diameter sizes

record Sound (last : ℕ) (sizes : List Size) : Type 0 where
  ranges : T (each_size size_in_range sizes)
  rises : T (rise_above last sizes)
  areas : T (each_size area_fits sizes)

sound : (last : ℕ) (sizes : List Size) → below_least ≤ last → T (chain last sizes) → Sound last sizes
unfolding chain rise_above
sound last [] low t = record { ranges = tt; rises = tt; areas = tt }
sound last (size ∷ sizes) low t =
    let both = and_yes (may_follow last size) (chain size.diameter sizes) t in
    let f = follows last size both.0 in
    let rest = sound size.diameter sizes (omega (arith, f.above)) both.1 in
    record {
      ranges = yes_and (size_in_range size) (each_size size_in_range sizes) (in_range last size low f) rest.ranges;
      rises = yes_and (ltb last size.diameter) (rise_above size.diameter sizes) (lt→ltb _ _ f.above) rest.rises;
      areas = yes_and (area_fits size) (each_size area_fits sizes) (fits last size f) rest.areas;
    }

chained : (last : ℕ) (sizes : List Size) → Sound last sizes → T (chain last sizes)
unfolding chain rise_above
chained last [] s = tt
chained last (size ∷ sizes) s =
    let ranges = and_yes (size_in_range size) (each_size size_in_range sizes) s.ranges in
    let rises = and_yes (ltb last size.diameter) (rise_above size.diameter sizes) s.rises in
    let areas = and_yes (area_fits size) (each_size area_fits sizes) s.areas in
    yes_and (may_follow last size) (chain size.diameter sizes) (may_follow_lem last size ranges.0 rises.0 areas.0)
    (chained size.diameter sizes (record { ranges = ranges.1; rises = rises.1; areas = areas.1 }))

-- ---- what the pass finds

yes : (b : Bool) → T b → b ≡ true
yes true t = refl
yes false t = absurd t

module _ (diameter : ℕ) where
  -- nothing where some size may not follow
  broken : (last : ℕ) (found : Option ℕ) (sizes : List Size) → chain last sizes ≡ false → area_passed diameter last found sizes ≡ None
  unfolding area_passed chain
  broken last found [] e = let never : ◌≡◌ {A = ℕ} 0 1 = cc in absurd (omega arith)
  broken last found (size ∷ sizes) e = go (may_follow last size) e (broken size.diameter _ sizes)
    where
      go : (may : Bool) → (may && chain size.diameter sizes) ≡ false → {rest : Option ℕ}
          → (chain size.diameter sizes ≡ false → rest ≡ None) → cond may rest None ≡ None
      go true e others = others e
      go false e others = refl

  -- an area that was found before stays, since every diameter left is greater
  kept : (last area : ℕ) (sizes : List Size) → T (chain last sizes) → diameter ≤ last
      → area_passed diameter last (Some area) sizes ≡ Some area
  unfolding area_passed chain
  kept last area [] t past = refl
  kept last area (size ∷ sizes) t past =
      let both = and_yes (may_follow last size) (chain size.diameter sizes) t in
      let above = (follows last size both.0).above in
      rw (yes (may_follow last size) both.0, ne_eqb diameter size.diameter (omega arith))
      (kept size.diameter area sizes both.1 (omega arith))

  -- and else it is the first that has the diameter
  found_first : (last : ℕ) (sizes : List Size) → T (chain last sizes) → area_passed diameter last None sizes ≡ area_among diameter sizes
  unfolding area_passed chain area_among
  found_first last [] t = refl
  found_first last (size ∷ sizes) t =
      let both = and_yes (may_follow last size) (chain size.diameter sizes) t in
      rw (yes (may_follow last size) both.0)
      (go (eqb diameter size.diameter) refl
      (λ same. kept size.diameter size.area sizes both.1 (omega (arith, same)))
      (found_first size.diameter sizes both.1))
    where
      go : (same : Bool) → eqb diameter size.diameter ≡ same
          → (diameter ≡ size.diameter → area_passed diameter size.diameter (Some size.area) sizes ≡ Some size.area)
          → area_passed diameter size.diameter None sizes ≡ area_among diameter sizes
          → area_passed diameter size.diameter (cond same (Some size.area) None) sizes
          ≡ cond same (Some size.area) (area_among diameter sizes)
      go true e here others = here (eqb-true diameter size.diameter e)
      go false e here others = others

-- ---- a table: its sizes are a chain exactly where it is taken

module _ (table : BoltTable) (counted : within size_counts table.count ≡ true) where
  chain_taken : T (chain below_least (counted_sizes table)) → table_check table ≡ Taken
  unfolding table_check table_refusals first_failing
  chain_taken t =
      let s = sound below_least (counted_sizes table) (omega arith) t in
      rw (
        counted,
        yes (each_size size_in_range (counted_sizes table)) s.ranges,
        sym (from_first (counted_sizes table) s.ranges) ∙ yes (rise_above below_least (counted_sizes table)) s.rises,
        yes (each_size area_fits (counted_sizes table)) s.areas,
      )

  taken_chain : table_check table ≡ Taken → T (chain below_least (counted_sizes table))
  taken_chain e =
      let ranges = sizes_in_range table e in
      chained below_least (counted_sizes table)
      (record {
        ranges = ranges;
        rises = rw (from_first (counted_sizes table) ranges) (sizes_rise table e);
        areas = areas_fit table e;
      })

  -- so the pass finds what the table lists
  pub passed : (diameter : ℕ) → area_passed diameter below_least None (counted_sizes table) ≡ area_of table diameter
  passed diameter = by_chain (chain below_least (counted_sizes table)) refl
    where
      by_check : (check : TableCheck) → table_check table ≡ check → chain below_least (counted_sizes table) ≡ false
          → None ≡ area_of table diameter
      by_check Taken e no-chain = absurd (subst (λ (b : Bool). T b) no-chain (taken_chain e))
      by_check (Refused number) e no-chain = if_refused table diameter e

      by_chain : (test : Bool) → chain below_least (counted_sizes table) ≡ test
          → area_passed diameter below_least None (counted_sizes table) ≡ area_of table diameter
      by_chain true e =
          let t = subst (λ (b : Bool). T b) (sym e) tt in
          found_first diameter below_least (counted_sizes table) t ∙ if_taken table diameter (chain_taken t)
      by_chain false e = broken diameter below_least None (counted_sizes table) e ∙ by_check (table_check table) refl e

-- a table whose count is out of range lists nothing
pub uncounted : (table : BoltTable) (diameter : ℕ) → within size_counts table.count ≡ false → None ≡ area_of table diameter
unfolding table_check table_refusals first_failing
uncounted table diameter bad = if_refused table diameter {number = 16} (rw bad)

-- ---- one size after another

module _ (diameter last : ℕ) (found : Option ℕ) {sizes : List Size} where
  module _ {size : Size} {rest : List Size} (left : sizes ≡ size ∷ rest) where
    pub stops : may_follow last size ≡ false → area_passed diameter last found sizes ≡ None
    unfolding area_passed
    stops e = ap (area_passed diameter last found) left ∙ (rw e)

    pub goes_on : may_follow last size ≡ true
        → area_passed diameter last found sizes
        ≡ area_passed diameter size.diameter (cond (eqb diameter size.diameter) (Some size.area) found) rest
    unfolding area_passed
    goes_on e = ap (area_passed diameter last found) left ∙ (rw e)

  pub none_left : sizes ≡ [] → area_passed diameter last found sizes ≡ found
  unfolding area_passed
  none_left end = ap (area_passed diameter last found) end
