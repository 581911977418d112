-- Rules 9.1 to 9.3: what reading gives (`Parse`), a number (`Number`), and numbers one after another (`Run`).
pub mod Parse
pub mod Number
pub mod Run
-- What serves the code: what its answers mean (`Answers`).
pub mod Answers
