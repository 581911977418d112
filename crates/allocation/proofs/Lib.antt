pub mod Answers
pub mod Bound
pub mod Counting
pub mod Raising
pub mod Rows
pub mod InTriangle
