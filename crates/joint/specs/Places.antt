-- Eight places for the numbers of at most eight rows: a joint's levers (rule 2.2) and the forces of an answer (rule 10.3).
-- Assumes nothing.
use Rattle.std.specs.Prelude.{ℕ, ◌-◌, List, ◌++◌, length, replicate}
use Rattle.joint.specs.Ranges.{row_counts}

-- a number for each row, and 0 for each spare place
unfoldable pub eight_places : List ℕ → List ℕ
eight_places numbers = numbers ++ replicate (row_counts.high - length numbers) 0
