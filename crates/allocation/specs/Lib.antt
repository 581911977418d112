-- Rules 10: what Allocate answers (`Allocation`), and what the code's answers say of that (`Answers`). Rule 7.3 for Allocate: how far one
-- limit moves it (`Raising`). For the code: what the steps of sharing require and leave (`Steps`).
pub mod Allocation
pub mod Answers
pub mod Raising
pub mod Steps
