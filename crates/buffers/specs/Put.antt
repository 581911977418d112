-- What code that puts bytes into a lent buffer answers for: where they stand, and that nothing else changed. Assumes nothing.
use Rattle.std.specs.Prelude.{ℕ, ◌+◌, ◌≡◌, List, ◌++◌, length, drop}
use Rattle.std.proofs.lemmas.List.Edits.{sets}

-- Bytes, or words, at a buffer's front, which is as it was past them.
abbrev pub at_front : List ℕ → List ℕ → List ℕ
at_front bytes buffer = bytes ++ drop (length bytes) buffer

-- Bytes put into a buffer from a place on, with the place after them.
pub record Put (buffer : List ℕ) (from : ℕ) (bytes exit : List ℕ) (next : ℕ) : Type 0 where
  pub place : next ≡ from + length bytes
  pub stores : exit ≡ sets buffer from bytes
