-- How large the dimensions of a face are, and the groups that limits are asked for. Assumes nothing.
use Rattle.std.specs.Prelude.{ℕ, ◌*◌}
use Rattle.arithmetic.specs.Range.{Within, ◌to◌}
use Rattle.joint.specs.Ranges.{row_counts}
use Rattle.strength.specs.InRange.{most_pair_tension}
use Rattle.stubs.specs.InRange.{group_rows, rises, most_pattern, most_web_length, most_web, GroupStubWithin, LengthsWithin}
use Rattle.tension.specs.declared.Dimensions.{Dimensions}

-- no group limit is above this, 36011360: what the bolts of eight rows carry
abbrev pub most_group_limit : ℕ
most_group_limit = row_counts.high * most_pair_tension

pub record DimensionsWithin (d : Dimensions) : Type 0 where
  pub column : GroupStubWithin d.column
  pub plate : GroupStubWithin d.plate
  pub column_lengths : LengthsWithin d.column_lengths
  pub plate_lengths : LengthsWithin d.plate_lengths
  pub near_flange : Within (0 to most_pattern) d.near_flange
  pub web_length : Within (0 to most_web_length) d.web_length
  pub column_web : Within (0 to most_web) d.column_web
  pub lesser_web : Within (0 to most_web) d.lesser_web
  pub pair : Within (0 to most_pair_tension) d.pair

-- a group of k rows whose rise is s
pub record GroupInRange (d : Dimensions) (k s : ℕ) : Type 0 where
  pub dimensions : DimensionsWithin d
  pub rows : Within group_rows k
  pub rise : Within rises s
