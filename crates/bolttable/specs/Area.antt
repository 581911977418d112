-- Rule 3.8: what Work has of the table that it is handed, the area of the joint's bolts. Assumes nothing.
use Rattle.std.specs.Prelude.{ℕ, Bool, cond, List, [], ◌∷◌, Option, Some, None, is_some, unwrap_or, eqb}
use Rattle.bolttable.specs.Loading.{Size, counted_sizes, TableCheck, Taken, Refused, table_check}
use Rattle.bolttable.specs.declared.BoltTable.{BoltTable}

-- a table that loading would refuse has no sizes
abbrev pub sizes_by : TableCheck → List Size → List Size
sizes_by Taken sizes = sizes
sizes_by (Refused number) sizes = []

abbrev pub sizes_of : BoltTable → List Size
sizes_of table = sizes_by (table_check table) (counted_sizes table)

-- the area of the size that has a diameter
unfoldable pub area_among : (diameter : ℕ) → List Size → Option ℕ
area_among diameter [] = None
area_among diameter (size ∷ sizes) = cond (eqb diameter size.diameter) (Some size.area) (area_among diameter sizes)

-- the area that a table lists for a diameter
unfoldable pub area_of : BoltTable → (diameter : ℕ) → Option ℕ
unfolding area_among table_check
area_of table diameter = area_among diameter (sizes_of table)

-- whether the diameter is one of the table's sizes
abbrev pub is_listed : Option ℕ → Bool
is_listed area = is_some area

-- A, in tenths of mm²; 0 where there is none
abbrev pub area_number : Option ℕ → ℕ
area_number area = unwrap_or area 0
