-- The limits with the cap among them (`Forces`), what is known of the rows' levers (`Levers`), the verdicts from what is counted
-- (`Judged`), what the refusals leave (`Answers`), demand 3 (`Best`), what a face with no rows comes to (`NoRows`), and how large the sum
-- of the forces is (`Sums`). They assume nothing.
pub mod Forces
pub mod Levers
pub mod Answers
pub mod Best
pub mod NoRows
pub mod Judged
pub mod Sums
