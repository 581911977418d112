-- Rules 9.1, for N, 9.2 and 9.8: the order of a joint's fields in its file, the joint that has them, and those of a joint (`Fields`).
-- For the code: what it relies on (`Places`).
pub mod Fields
pub mod Places
