-- How large what a table lists can be: the bounds have their names here and are cited by them in the crates above. Assumes nothing.
use Rattle.std.specs.Prelude.{ℕ, T, Option}
use Rattle.arithmetic.specs.Range.{Within, ◌to◌}
use Rattle.bolttable.specs.Loading.{bolt_diameters, greatest_area}
use Rattle.bolttable.specs.Area.{is_listed, area_number}

-- no A is above this, 32153: that of the greatest diameter
abbrev pub most_area : ℕ
most_area = greatest_area bolt_diameters.high

-- what every table lists for a diameter
pub record AreaInRange (diameter : ℕ) (area : Option ℕ) : Type 0 where
  pub listed : T (is_listed area) → Within bolt_diameters diameter
  pub most : Within (0 to most_area) (area_number area)
