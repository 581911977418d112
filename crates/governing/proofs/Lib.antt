-- How large the governing force is, and the cap by the sign of N.
pub mod Least
pub mod Cases
