-- How large the strengths of a joint are whose fields are in range: each bound has its name here and is cited by it in the crates above.
-- Assumes nothing.
use Rattle.std.specs.Prelude.{ℕ, ◌*◌, ◌/◌}
use Rattle.arithmetic.specs.Range.{Range, Within, ◌to◌}
use Rattle.bolttable.specs.Loading.{bolt_diameters}
use Rattle.bolttable.specs.InRange.{most_area}
use Rattle.joint.specs.Ranges.{flanges}
use Rattle.joint.specs.InRange.{ColumnInRange, PlateInRange}
use Rattle.joint.specs.declared.Column.{Column}
use Rattle.joint.specs.declared.Plate.{Plate}
use Rattle.strength.specs.declared.SteelStrengths.{SteelStrengths}
use Rattle.strength.specs.declared.BoltStrengths.{BoltStrengths}

-- yc, yb and yp
abbrev pub yield_strengths : Range
yield_strengths = 255 to 355

-- no W is above this, 4501420: the largest bolt of the highest class
abbrev pub most_pair_tension : ℕ
most_pair_tension = 2 * most_area * 700 / 10

-- and no S above this, 2572240
abbrev pub most_pair_shear : ℕ
most_pair_shear = 2 * most_area * 400 / 10

abbrev pub bolt_bearings : Range
bolt_bearings = 460 to 1300

-- U
abbrev pub ultimate_strengths : Range
ultimate_strengths = 400 to 1000

-- pw
abbrev pub weld_strengths : Range
weld_strengths = 220 to 250

-- no flange and no plate is thicker
abbrev pub most_thickness : ℕ
most_thickness = flanges.high

pub record SteelInRange (steel : SteelStrengths) : Type 0 where
  pub column : Within yield_strengths steel.column
  pub beam : Within yield_strengths steel.beam
  pub plate : Within yield_strengths steel.plate

pub record BoltInRange (bolt : BoltStrengths) : Type 0 where
  pub diameter : Within bolt_diameters bolt.diameter
  pub pair_tension : Within (0 to most_pair_tension) bolt.pair_tension
  pub pair_shear : Within (0 to most_pair_shear) bolt.pair_shear
  pub bearing : Within bolt_bearings bolt.bearing
  pub ultimate : Within ultimate_strengths bolt.ultimate

-- what says whether flange and plate are too thick for the bolts
pub record ThicknessInRange (c : Column) (p : Plate) (y : SteelStrengths) (b : BoltStrengths) : Type 0 where
  pub column : ColumnInRange c
  pub plate : PlateInRange p
  pub steel : SteelInRange y
  pub bolt : BoltInRange b
