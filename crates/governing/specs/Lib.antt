-- Rules 5.6, 5.7, 5.10 and 11.7: the governing check (`Governing`), tension cap and refusal 15 (`Cap`). What serves the code: what it
-- answers for the cap (`Answers`).
pub mod Governing
pub mod Cap
pub mod Answers
