-- What the tests rely on, from fields in range: nothing here states a rule. Assumes nothing.
use Rattle.std.specs.Prelude.{◌≤◌}
use Rattle.arithmetic.specs.Range.{Within}
use Rattle.joint.specs.Ranges.{row_counts, depths, flanges}
use Rattle.joint.specs.declared.Face.{Face}

-- What finding the rows in place relies on.
pub record PlacesInRange (face : Face) : Type 0 where
  pub rows : face.rows ≤ row_counts.high
  pub depth : Within depths face.beam.depth
  pub flange : Within flanges face.beam.flange
