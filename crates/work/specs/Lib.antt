-- Rules 3.8, 5.10, 7, 8.6 and 11: Work's answer for a joint (`Work`), and demand 3 of it (`Demand`). One face is the crate `connection`.
pub mod Work
pub mod Demand
