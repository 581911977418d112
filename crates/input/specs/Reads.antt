-- An input read into a space: what was read stands at its front, and where the space isn't full the input has ended; or a read failed while
-- there was space left. Which bytes an input has is known of a reader over memory; of the system's nothing is. Assumes nothing.
use Rattle.std.specs.Prelude.{ℕ, ◌≤◌, ◌<◌, List, length, take, Option}
use Rattle.std.specs.Io.KnownBytes.{Consumes, IsAtEnd}

-- the bytes that the input had before and has after, where they are known
pub record ReadWhole (before after : Option (List ℕ)) (space : List ℕ) (count : ℕ) : Type 0 where
  pub inside : count ≤ length space
  pub bytes : Consumes before after (take count space)
  pub ended : count < length space → IsAtEnd after

-- so many bytes were read, fewer than have a place, when a read failed
pub record Failed (before after : Option (List ℕ)) (space : List ℕ) : Type 0 where
  pub count : ℕ
  pub room : count < length space
  pub bytes : Consumes before after (take count space)
