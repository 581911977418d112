-- What the proofs of several calls use: the three ways out (`Answers`), that no refusal is 0 (`Refusals`), and what each call leans on
-- (`Calls`). Assumes nothing.
pub mod Answers
pub mod Refusals
pub mod Calls
