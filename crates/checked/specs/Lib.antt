-- The checked joints of rules 14, as one table.
pub mod Checked
