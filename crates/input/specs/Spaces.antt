-- A space of zeros. Only the code that makes one opens it: a space may have a million places, and their list is never written out.
-- Assumes nothing.
use Rattle.std.specs.Prelude.{ℕ, List, replicate}

unfoldable pub zeros : (size : ℕ) → List ℕ
zeros size = replicate size 0
