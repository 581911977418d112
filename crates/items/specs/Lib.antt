-- What an item of a line is: the digits of a number, a letter, and the space before each. Both files state rule 12.1. `Counting` serves the
-- code: what a counter answers for. Assumes nothing.
pub mod Digits
pub mod Items
pub mod Counting
