-- The laws of lines. `Lines` has those that a caller leans on, and those that carry the code to the definitions.
-- Assumes nothing.
pub mod Lines
