-- What each function requires of its arguments, and the bounds that it names. Work meets all of it: fields are in range, and no limit is
-- above the greatest.
-- Assumes nothing.
use Rattle.std.specs.Prelude.{◌≡◌, List, length, ℕ, ◌+◌, ◌*◌, ◌≤◌, get_or}
use Rattle.arithmetic.specs.Range.{Range, Within, ◌to◌}
use Rattle.bolttable.specs.Loading.{bolt_diameters}
use Rattle.joint.specs.Ranges.{row_counts, shear_row_counts, weld_lengths, legs, most_lever}
use Rattle.joint.specs.InRange.{ColumnInRange, BeamInRange, PlateInRange, LoadsInRange, FaceInRange}
use Rattle.joint.specs.declared.Column.{Column}
use Rattle.joint.specs.declared.Beam.{Beam}
use Rattle.joint.specs.declared.Plate.{Plate}
use Rattle.joint.specs.declared.Loads.{Loads}
use Rattle.joint.specs.declared.Face.{Face}
use Rattle.strength.specs.Steel.{steel_strength, weld_strength}
use Rattle.strength.specs.InRange.{bolt_bearings, weld_strengths, most_thickness, most_pair_shear, BoltInRange}
use Rattle.strength.specs.declared.BoltStrengths.{BoltStrengths}
use Rattle.sharing.specs.Groups.{most_limit}

-- no row's force times its lever is above this, and so no Z of eight rows above the next
abbrev pub most_row_moment : ℕ
most_row_moment = most_limit * most_lever

abbrev pub most_moment : ℕ
most_moment = most_row_moment * row_counts.high

-- rows with a force; rows without one, the shear rows among them
abbrev pub pulling_counts : Range
pulling_counts = 0 to row_counts.high

abbrev pub idle_counts : Range
idle_counts = 0 to row_counts.high + shear_row_counts.high

-- levers and forces of as many rows
pub record TallyAsked (h forces : List ℕ) : Type 0 where
  pub rows : length forces ≤ row_counts.high
  pub as_many : length h ≡ length forces
  pub lever_most : (k : ℕ) → get_or h k 0 ≤ most_lever
  pub force_most : (k : ℕ) → get_or forces k 0 ≤ most_limit

pub record BendingAsked (l : Loads) (b : Beam) (z : ℕ) : Type 0 where
  pub loads : LoadsInRange l
  pub beam : BeamInRange b
  pub moment_most : z ≤ most_moment

-- a pair's bearing on one part
pub record BearingAsked (δ t pb : ℕ) : Type 0 where
  pub diameter : Within bolt_diameters δ
  pub thickness : Within (0 to most_thickness) t
  pub strength : Within (0 to bolt_bearings.high) pb

-- and on both
pub record PairAsked (b : BoltStrengths) (c : Column) (p : Plate) : Type 0 where
  pub bolt : BoltInRange b
  pub column : ColumnInRange c
  pub plate : PlateInRange p

pub record PairsAsked (pulling idle S : ℕ) : Type 0 where
  pub pulling_rows : Within pulling_counts pulling
  pub idle_rows : Within idle_counts idle
  pub shear : Within (0 to most_pair_shear) S

pub record BoltsAsked (b : BoltStrengths) (c : Column) (p : Plate) (pulling idle : ℕ) : Type 0 where
  pub pair : PairAsked b c p
  pub pulling_rows : Within pulling_counts pulling
  pub idle_rows : Within idle_counts idle

-- a weld's leg, length and strength
pub record WeldAsked (leg length pw : ℕ) : Type 0 where
  pub leg_most : Within (0 to legs.high) leg
  pub length_most : Within weld_lengths length
  pub strength : Within weld_strengths pw

pub record FlangeWeldAsked (f : Face) (yb pw : ℕ) : Type 0 where
  pub face : FaceInRange f
  pub beam_strength : yb ≡ steel_strength f.beam.grade f.beam.flange
  pub weld_strength : pw ≡ weld_strength f.beam.grade f.plate.grade
