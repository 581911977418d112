-- Rules 8: the verdicts (`Bending`, `Bolts`, `Welds`). What serves the code: what row forces come to (`Tally`), and what each function
-- asks (`Asked`).
pub mod Bending
pub mod Bolts
pub mod Welds
pub mod Tally
pub mod Asked
