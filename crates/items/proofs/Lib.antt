-- The laws of items. `Numerals` and `Items` have those that a caller leans on; `Digits` carries the loop that puts a number to the
-- definition. Assumes nothing.
pub mod Numerals
pub mod Digits
pub mod Items
