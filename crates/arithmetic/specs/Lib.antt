-- What the crates state the rules with: numbered checks and the first that fails, ranges, small tables, and the greatest number that
-- passes a test.
pub mod Checks
pub mod Range
pub mod Table
pub mod Greatest
