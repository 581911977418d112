-- What the making of a face relies on: its numbers are there. Assumes nothing.
use Rattle.std.specs.Prelude.{ℕ, ◌+◌, ◌≤◌, List, length}

-- fields 6 and 7 from the place of field 6 on, and 14 to 29 from that of field 14; 1 and 2 come first
pub record PlacesWithin (numbers : List ℕ) (sixth fourteenth : ℕ) : Type 0 where
  pub grades : sixth + 2 ≤ length numbers
  pub others : fourteenth + 16 ≤ length numbers
