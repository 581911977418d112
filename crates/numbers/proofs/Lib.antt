-- The laws of numbers and of runs. `Codec` and `RunCodec` have their round trips, `Ends` what reading leaves, `Refusals` what a refusal's
-- number is, `Parsing` what was read one after another; the others carry the loops of the code to the definitions. They assume nothing.
pub mod Parsing
pub mod Groups
pub mod Codec
pub mod Sizes
pub mod Runs
pub mod Puts
pub mod RunCodec
pub mod Refusals
pub mod Ends
