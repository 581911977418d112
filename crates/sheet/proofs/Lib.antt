-- Why the program's output never runs out.
-- Assumes nothing.
pub mod Room
