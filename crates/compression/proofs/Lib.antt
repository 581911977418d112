-- What makes a number web buckling, and how large the compression side's figures are.
pub mod Buckling
pub mod Ranges
