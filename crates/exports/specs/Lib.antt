-- What the exported calls answer and leave (rules 13.1, 13.2, 13.5 and 13.6): `Answers` is one shape for all, `Calls` each call by the
-- definitions that it rests on. Assumes nothing.
pub mod Answers
pub mod Calls
