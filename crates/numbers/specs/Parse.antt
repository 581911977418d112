-- What reading gives: what was read with the bytes after it, or the refusal's number; and how one thing is read after
-- another. Assumes nothing.
use Rattle.std.specs.Prelude.{ℕ, List}

pub data Parse (A : Type 0) : Type 0 where
  got : A → List ℕ → Parse A
  refused : ℕ → Parse A

-- Reading stops at the first trouble: `next` goes on with what was read and the bytes after it, and a refusal stays what it is.
abbrev pub and_then : {A B : Type 0} → Parse A → (A → List ℕ → Parse B) → Parse B
and_then (got a left) next = next a left
and_then (refused r) next = refused r
