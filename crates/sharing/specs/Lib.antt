-- Rules 1.3, 6, 7 and 10.1: row groups and their limits (`Groups`), how limits become row forces and which lists compete (`Sharing`),
-- what makes a list the best, demand 3 for any table (`Best`), how far one limit moves sums and moment (`Raising`), and what the rows
-- below a reference row are limited to in P207's triangle (`Triangle`).
pub mod Groups
pub mod Sharing
pub mod Best
pub mod Raising
pub mod Triangle
