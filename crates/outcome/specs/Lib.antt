-- What a joint comes to as the refusals' numbers and the figures, and the answers that say so (rules 11).
pub mod Outcome
