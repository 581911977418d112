-- The laws of words put one run after another (`Copies`), of N as a word (`Axial`), and of verdicts as words (`Flags`). Assumes nothing.
mod Copies
mod Axial
mod Flags
