-- What the limits of one face rely on, which Work establishes, and what they come to: a table in Allocate's order.
-- Assumes nothing.
use Rattle.std.specs.Prelude.{◌≡◌, ℕ, suc, ◌+◌, ◌-◌, ◌≤◌, ◌<◌, List, length, get_or}
use Rattle.arithmetic.specs.Range.{Within, ◌to◌}
use Rattle.joint.specs.Ranges.{row_counts, most_lever}
use Rattle.joint.specs.InRange.{ColumnInRange, FaceInRange}
use Rattle.joint.specs.declared.Column.{Column}
use Rattle.joint.specs.declared.Face.{Face}
use Rattle.strength.specs.Steel.{steel_strength, steel_strengths}
use Rattle.strength.specs.InRange.{most_pair_tension}
use Rattle.strength.specs.declared.SteelStrengths.{SteelStrengths}
use Rattle.sharing.specs.Groups.{Table, groups_above, place_of, group_count, listed, most_limit}
use Rattle.spacing.specs.Spacing.{least_distance, least_edge, column_m, plate_m, column_edge, plate_edge, extension_m, spacing_of}
use Rattle.spacing.specs.declared.Spacing.{Spacing}
use Rattle.tension.specs.InRange.{DimensionsWithin}
use Rattle.tension.specs.declared.Dimensions.{Dimensions}

-- the places of a lent table: the groups of eight rows
abbrev pub table_places : ℕ
table_places = 36

-- What refusals 10, 11 and 13 leave of a face on its column; the limits need nothing of 19 and 12.
pub record Admissible (c : Column) (f : Face) : Type 0 where
  -- refusal 10
  pub column : ColumnInRange c
  pub face : FaceInRange f
  -- refusal 11: each lever is below the one above it
  pub falls : (k : ℕ) → suc k < f.rows → get_or f.levers (suc k) 0 < get_or f.levers k 0
  -- refusal 13
  pub column_m : least_distance ≤ column_m c f.layout
  pub plate_m : least_distance ≤ plate_m f
  pub extension_m : f.extended ≡ 1 → least_distance ≤ extension_m f
  pub column_edge : least_edge ≤ column_edge c f.layout
  pub plate_edge : least_edge ≤ plate_edge f

-- The distances and strengths that go with the face, and a pair tension that bolts can have.
pub record FiguresGiven (c : Column) (f : Face) (spacing : Spacing) (steel : SteelStrengths) (W : ℕ) : Type 0 where
  pub distances : spacing ≡ spacing_of c f
  pub strengths : steel ≡ steel_strengths c f.beam f.plate
  pub pair : Within (0 to most_pair_tension) W

-- All that filling a lent table with the face's limits asks.
pub record LimitsAsked (c : Column) (f : Face) (spacing : Spacing) (steel : SteelStrengths) (W : ℕ) : Type 0 where
  pub admissible : Admissible c f
  pub figures : FiguresGiven c f spacing steel W

-- What the extension row's limit is worked from: mx, the plate's e, yp and W.
pub record ExtensionFigures (f : Face) (mx e yp W : ℕ) : Type 0 where
  pub face : FaceInRange f
  pub distance : mx ≡ extension_m f
  pub distance_least : f.extended ≡ 1 → least_distance ≤ mx
  pub edge : e ≡ plate_edge f
  pub edge_least : least_edge ≤ e
  pub strength : yp ≡ steel_strength f.plate.grade f.plate.thickness
  pub pair : Within (0 to most_pair_tension) W

-- Levers of at most eight rows, none below one under it.
pub record Levers (levers : List ℕ) : Type 0 where
  pub rows : length levers ≤ row_counts.high
  pub fall : (i j : ℕ) → i ≤ j → j < length levers → get_or levers j 0 ≤ get_or levers i 0
  pub high : (i : ℕ) → i < length levers → get_or levers i 0 ≤ most_lever

-- What the limits of the groups that begin at a row ask: that row's lever and those below it, and as many places.
pub record RowAsked (d : Dimensions) (h limits : List ℕ) : Type 0 where
  pub dimensions : DimensionsWithin d
  pub levers : Levers h
  pub places : length limits ≡ length h

-- And those of the groups that begin at a row or below: the levers of all rows, and a place for each such group.
pub record FillAsked (d : Dimensions) (h : List ℕ) (row : ℕ) (table : List ℕ) : Type 0 where
  pub dimensions : DimensionsWithin d
  pub levers : Levers h
  pub inside : row ≤ length h
  pub places : group_count (length h) ≤ groups_above (length h) row + length table

-- How a lent table stands when those limits are at its front: no place after them has changed.
pub record FilledFrom (n : ℕ) (limit : Table) (row : ℕ) (entry exit : List ℕ) : Type 0 where
  pub agrees : (i j : ℕ) → row ≤ i → i ≤ j → j < n → get_or exit (place_of n i j - groups_above n row) 0 ≡ limit i j
  pub bounded : (k : ℕ) → groups_above n row + k < group_count n → get_or exit k 0 ≤ most_limit
  pub untouched : (k : ℕ) → group_count n ≤ groups_above n row + k → get_or exit k 0 ≡ get_or entry k 0

-- What stands in a lent table once every group of n rows has its limit there, in Allocate's order.
pub record TableFilled (n : ℕ) (limit : Table) (entry exit : List ℕ) : Type 0 where
  pub size : length exit ≡ table_places
  pub agrees : (i j : ℕ) → i ≤ j → j < n → listed n exit i j ≡ limit i j
  -- no limit that Allocate refuses
  pub bounded : (k : ℕ) → k < group_count n → get_or exit k 0 ≤ most_limit
  -- places that no group has are as they were
  pub untouched : (k : ℕ) → group_count n ≤ k → get_or exit k 0 ≡ get_or entry k 0
