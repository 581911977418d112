-- Rules 4.2 to 4.5, 4.7, 4.9 and 4.10, for a T-stub and a web (`Bending`, `Web`). What serves the code: the same worked from figures that
-- are the same for every group (`Worked`), and how large the figures are (`InRange`).
pub mod Bending
pub mod Web
pub mod Worked
pub mod InRange
