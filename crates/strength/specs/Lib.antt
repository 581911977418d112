-- Rules 3.1, 3.3 to 3.6 and the thickness of 6.5: steel and welds (`Steel`), bolts (`Bolt`), and whether parts are too thick for these
-- (`Thickness`). What serves the code and the crates above is how large the strengths are (`InRange`).
pub mod Steel
pub mod Bolt
pub mod Thickness
pub mod InRange
