-- What the compression side asks of a joint, all of it from fields in range, and how large its figures are.
-- Assumes nothing.
use Rattle.std.specs.Prelude.{ℕ, ◌*◌, ◌/◌}
use Rattle.arithmetic.specs.Range.{Range, Within, ◌to◌}
use Rattle.joint.specs.Ranges.{webs}
use Rattle.joint.specs.InRange.{ColumnInRange, BeamInRange, PlateInRange, WeldsInRange}
use Rattle.joint.specs.declared.Column.{Column}
use Rattle.joint.specs.declared.Beam.{Beam}
use Rattle.joint.specs.declared.Plate.{Plate}
use Rattle.joint.specs.declared.Welds.{Welds}
use Rattle.strength.specs.InRange.{yield_strengths, SteelInRange}
use Rattle.strength.specs.declared.SteelStrengths.{SteelStrengths}

-- b
abbrev pub bearing_lengths : Range
bearing_lengths = 420 to 6500

-- no web bearing of fields in range is above this, and so no governing force
abbrev pub most_bearing : ℕ
most_bearing = bearing_lengths.high * webs.high * yield_strengths.high / 100

pub record PartsInRange (y : SteelStrengths) (c : Column) (b : Beam) (p : Plate) (s : Welds) : Type 0 where
  pub steel : SteelInRange y
  pub column : ColumnInRange c
  pub beam : BeamInRange b
  pub plate : PlateInRange p
  pub welds : WeldsInRange s

-- what b is worked from
pub record LengthParts (c : Column) (b : Beam) (p : Plate) (s : Welds) : Type 0 where
  pub column : ColumnInRange c
  pub beam : BeamInRange b
  pub plate : PlateInRange p
  pub welds : WeldsInRange s

-- what web bearing and web buckling are worked from: b, yc and the column
pub record ColumnWebParts (b yc : ℕ) (c : Column) : Type 0 where
  pub bearing_length : Within bearing_lengths b
  pub strength : Within yield_strengths yc
  pub column : ColumnInRange c
