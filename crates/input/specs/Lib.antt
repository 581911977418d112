-- What it is to have read an input to its end (rule 13.4), and the space that it is read into. Assumes nothing.
pub mod Reads
pub mod Spaces
