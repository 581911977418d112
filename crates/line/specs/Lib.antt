-- `Line` states rules 12.2 to 12.4 and 12.6: what a line of the sheet is. `Longest` and `Steps` serve the code: how long a line can be, and
-- what each step hands over.
-- Assumes nothing.
pub mod Line
pub mod Longest
pub mod Steps
