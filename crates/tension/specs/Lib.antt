-- Rules 4.6 to 4.11: the limit of a row group (`Limits`). What serves the code: the same from dimensions worked once for all groups
-- (`Dimensions`), how large those are (`InRange`), what the limits rely on and what they fill (`Admissible`).
pub mod Limits
pub mod Dimensions
pub mod InRange
pub mod Admissible
