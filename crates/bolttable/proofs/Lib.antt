-- The laws of a table's sizes by their places (`Sizes`), of what a table lists and how large it can be (`Areas`), of loading's pass over
-- the sizes (`Checks`), and of Work's (`Passes`). They assume nothing.
pub mod Sizes
pub mod Areas
pub mod Checks
pub mod Passes
