-- How large a T-stub's figures are, that they come out as the rules say, and which of modes 1 and 2 is the lesser.
pub mod Sizes
pub mod Same
pub mod Modes
