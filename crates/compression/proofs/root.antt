-- Laws on plain numbers that the root's proofs cite.
mod Newton
mod Halves
