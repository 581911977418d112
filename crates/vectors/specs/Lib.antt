-- What comparing an answer with a stored one comes to. All else that the program does is proved safe, and no more: its work is to run the
-- proved calls, and a person reads its lines. Assumes nothing.
pub mod Difference
