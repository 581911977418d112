-- The bending rule, and what row forces come to.
pub mod Bending
pub mod Tallying
