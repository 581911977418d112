-- The laws of comparing. Assumes nothing.
pub mod Differences
