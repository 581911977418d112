-- What a writer answers for: it has the buffer that it was lent, bytes are put at its place, and the place moves past them. Assumes nothing.
use Rattle.std.specs.Prelude.{ℕ, ◌+◌, ◌≡◌, ◌≤◌, List, length}
use Rattle.buffers.specs.Put.{Put}
use Rattle.buffers.specs.declared.Writer.{Writer}

-- Bytes put by a writer: its buffer is the one that it was lent, with the bytes from its place on, and its place is after them.
pub record Puts (before : Writer) (bytes : List ℕ) (after : Writer) : Type 0 where
  pub same : after.buffer.ghost_name ≡ before.buffer.ghost_name
  pub put : Put before.buffer.now before.at bytes after.buffer.now after.at

-- so many bytes more have a place
abbrev pub HasRoom : Writer → (size : ℕ) → Type 0
HasRoom writer size = writer.at + size ≤ length writer.buffer.now
