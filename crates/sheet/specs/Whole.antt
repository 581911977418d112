-- The whole sheet stands at the front of the output.
-- Assumes nothing.
use Rattle.std.specs.Prelude.{ℕ, ◌≡◌, ◌≤◌, List, length}
use Rattle.buffers.specs.Put.{at_front}
use Rattle.printer.specs.Sheet.{sheet_of}

pub record Whole (input output exit : List ℕ) (size : ℕ) : Type 0 where
  pub bytes : exit ≡ at_front (sheet_of input) output
  pub all : size ≡ length (sheet_of input)
  pub inside : size ≤ length exit
