-- Bolt tables (rule 3.7): the sizes that one counts, what loading it answers, and the table built in (rule 3.2). Assumes nothing.
use Rattle.std.specs.Prelude.{ℕ, zero, suc, ◌*◌, ◌/◌, Bool, true, ◌&&◌, List, [], ◌∷◌, Result, Ok, Err, leb, ltb}
use Rattle.arithmetic.specs.Checks.{Check, first_failing}
use Rattle.arithmetic.specs.Range.{Range, within, ◌to◌}
use Rattle.bolttable.specs.declared.BoltTable.{BoltTable}
use Rattle.bolttable.specs.declared.TableRefusal.{TableRefusal}
use Rattle.bolttable.specs.declared.TableRefusal.TheVariants.{OutOfRange, DiametersDontRise, AreaTooLarge}

-- a table has so many sizes
abbrev pub size_counts : Range
size_counts = 1 to 12

-- δ, in millimetres
abbrev pub bolt_diameters : Range
bolt_diameters = 6 to 64

-- A, the tensile stress area, in tenths of mm²
abbrev pub bolt_areas : Range
bolt_areas = 1 to 40000

-- a size of bolt
pub record Size : Type 0 where
  pub diameter : ℕ
  pub area : ℕ

-- so many sizes: the first diameters, each with the area at its place
unfoldable pub sizes_in : (count : ℕ) (diameters areas : List ℕ) → List Size
sizes_in zero diameters areas = []
sizes_in (suc count) [] areas = []
sizes_in (suc count) (diameter ∷ diameters) [] = []
sizes_in (suc count) (diameter ∷ diameters) (area ∷ areas) =
    record { diameter = diameter; area = area } ∷ sizes_in count diameters areas

-- the sizes that a table counts; nothing past them is looked at
abbrev pub counted_sizes : BoltTable → List Size
counted_sizes table = sizes_in table.count table.diameters table.areas

-- a test of each size
abbrev pub each_size : (Size → Bool) → List Size → Bool
each_size test [] = true
each_size test (size ∷ sizes) = test size && each_size test sizes

-- rule 3.7, of 16: a size's numbers are in range
abbrev pub size_in_range : Size → Bool
size_in_range size = within bolt_diameters size.diameter && within bolt_areas size.area

-- rule 3.7, of 17: each diameter is above the one before it
unfoldable pub rise_above : (last : ℕ) → List Size → Bool
rise_above last [] = true
rise_above last (size ∷ sizes) = ltb last size.diameter && rise_above size.diameter sizes

-- the first has none before it
abbrev pub diameters_rise : List Size → Bool
diameters_rise [] = true
diameters_rise (size ∷ sizes) = rise_above size.diameter sizes

-- rule 3.7, of 18: 785×δ²÷100, and an area that isn't above it
abbrev pub greatest_area : (diameter : ℕ) → ℕ
greatest_area diameter = 785 * diameter * diameter / 100

abbrev pub area_fits : Size → Bool
area_fits size = leb size.area (greatest_area size.diameter)

-- rule 3.7: the refusals of loading in their order, each number with the test that lets a table pass
unfoldable pub table_refusals : BoltTable → List Check
unfolding sizes_in rise_above
table_refusals table =
    let sizes = counted_sizes table in
    (16, within size_counts table.count && each_size size_in_range sizes)
    ∷ (17, diameters_rise sizes)
    ∷ (18, each_size area_fits sizes)
    ∷ []

-- whether a table is taken, or the number that it is refused by
pub data TableCheck : Type 0 where
  Taken : TableCheck
  Refused : (number : ℕ) → TableCheck

-- the numbers of the refusals that the code names
abbrev pub number_of : TableRefusal → ℕ
number_of OutOfRange = 16
number_of DiametersDontRise = 17
number_of AreaTooLarge = 18

-- what a checked table's result says
abbrev pub check_meaning : Result (Unit {0}) TableRefusal → TableCheck
check_meaning (Ok done) = Taken
check_meaning (Err refusal) = Refused (number_of refusal)

unfoldable pub table_check : BoltTable → TableCheck
unfolding table_refusals
table_check table = first_failing Taken Refused (table_refusals table)

-- what loading a table answers: the refusal's number, 0 when the table is taken, and the table that is then in force
pub record Loading : Type 0 where
  pub refusal : ℕ
  pub table : BoltTable

-- what a loaded table's result says, with the table that is then in force
abbrev pub loading_meaning : Result (Unit {0}) TableRefusal → (in_force : BoltTable) → Loading
loading_meaning (Ok done) in_force = record { refusal = 0; table = in_force }
loading_meaning (Err refusal) in_force = record { refusal = number_of refusal; table = in_force }

-- rule 3.7: a table that is taken is then in force, and one that isn't leaves the one before; 0 is no refusal
abbrev pub loaded_by : TableCheck → (before table : BoltTable) → Loading
loaded_by Taken before table = record { refusal = 0; table = table }
loaded_by (Refused number) before table = record { refusal = number; table = before }

unfoldable pub loaded : (before table : BoltTable) → Loading
unfolding table_check
loaded before table = loaded_by (table_check table) before table

-- rule 3.2: the table built in, with spare places of 0
unfoldable pub built_in : BoltTable
built_in = record {
  count = 5;
  diameters = 12 ∷ 16 ∷ 20 ∷ 24 ∷ 30 ∷ 0 ∷ 0 ∷ 0 ∷ 0 ∷ 0 ∷ 0 ∷ 0 ∷ [];
  areas = 843 ∷ 1570 ∷ 2450 ∷ 3530 ∷ 5610 ∷ 0 ∷ 0 ∷ 0 ∷ 0 ∷ 0 ∷ 0 ∷ 0 ∷ [];
}
