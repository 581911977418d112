-- Rules 11.3 to 11.5 and 11.10: refusals 11, 19, 12 and 13 as tests of a face (`Refusals`). For the code: what they rely on (`Steps`).
pub mod Refusals
pub mod Steps
