-- A table tested in one pass over its sizes: for loading, by which number it is refused; for Work, with the area that it lists. No rule
-- stands here. Assumes nothing.
use Rattle.std.specs.Prelude.{◌≡◌, ℕ, ◌-◌, ◌*◌, Bool, cond, ◌&&◌, List, [], ◌∷◌, Option, Some, None, leb, ltb, eqb, length}
use Rattle.arithmetic.specs.Checks.{first_failing}
use Rattle.bolttable.specs.Loading.{Size, sizes_in, size_counts, bolt_diameters, each_size, size_in_range, diameters_rise, area_fits, TableCheck, Taken, Refused}

-- a table's twelve places, lent
pub record Places (diameters areas : List ℕ) : Type 0 where
  pub diameter_places : length diameters ≡ size_counts.high
  pub area_places : length areas ≡ size_counts.high

-- the sizes of places that are all counted
abbrev pub all_sizes : (diameters areas : List ℕ) → List Size
all_sizes diameters areas = sizes_in (length diameters) diameters areas

-- what the first diameter is held to be above
abbrev pub below_least : ℕ
below_least = bolt_diameters.low - 1

-- the refusals of loading after that of the count, over all sizes
unfoldable pub sizes_check : List Size → TableCheck
sizes_check sizes =
    first_failing Taken Refused
    ((16, each_size size_in_range sizes) ∷ (17, diameters_rise sizes) ∷ (18, each_size area_fits sizes) ∷ [])

-- Whether a size may come after one with the diameter `last`, or after none. Of its range only what the rest doesn't say is tested.
abbrev pub may_follow : (last : ℕ) → Size → Bool
may_follow last size =
    (ltb last size.diameter && leb size.diameter bolt_diameters.high)
    && (leb 1 size.area && leb (100 * size.area) (785 * size.diameter * size.diameter))

-- the area of the size with the diameter, where `found` is what the sizes before come to
unfoldable pub area_passed : (diameter last : ℕ) (found : Option ℕ) → List Size → Option ℕ
area_passed diameter last found [] = found
area_passed diameter last found (size ∷ sizes) =
    cond (may_follow last size)
    (area_passed diameter size.diameter (cond (eqb diameter size.diameter) (Some size.area) found) sizes)
    None
