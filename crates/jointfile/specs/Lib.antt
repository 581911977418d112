-- Rules 9.2 to 9.8, what a joint file is: reading one (`File`) and writing one (`Write`). Its numbers are those of the crate `numbers`,
-- and their order is that of `fields`.
pub mod File
pub mod Write
-- What serves the code and the laws: what its answers mean, what its steps require (`Answers`).
pub mod Answers
