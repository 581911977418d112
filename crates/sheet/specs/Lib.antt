-- What the program promises of what it prints. The sheet itself (rules 12) is defined in the crate `printer`. Assumes nothing.
pub mod Whole
