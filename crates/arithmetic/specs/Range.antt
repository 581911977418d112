-- A range of whole numbers, both ends included: as a test, and as a fact with its two halves named.
-- Assumes nothing.
use Rattle.std.specs.Prelude.{ℕ, ◌≤◌, Bool, ◌&&◌, leb}

infix 30 ◌to◌
pub record Range : Type 0 where
  pub low : ℕ
  pub high : ℕ

abbrev pub ◌to◌ : ℕ → ℕ → Range
low to high = record { low = low; high = high }

abbrev pub within : Range → ℕ → Bool
within range x = leb range.low x && leb x range.high

pub record Within (range : Range) (x : ℕ) : Type 0 where
  pub low : range.low ≤ x
  pub high : x ≤ range.high
