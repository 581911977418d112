-- The laws of sheets. `Sizes` says how long one can be; `Walk` and `Prints` carry the code to the definitions.
-- Assumes nothing.
pub mod Walk
pub mod Sizes
pub mod Prints
