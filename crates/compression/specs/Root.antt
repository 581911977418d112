-- The integer square root (rule 5.8): the greatest number of 32 bits whose square is at most x, for x of 64 bits; and what makes a first
-- guess safe. Assumes nothing.
use Rattle.std.specs.Prelude.{ℕ, ◌+◌, ◌*◌, ◌^◌, ◌<◌, cond, eqb, Option, Some, None}
use Rattle.arithmetic.specs.Greatest.{greatest}

unfoldable pub square_root : ℕ → ℕ
square_root = greatest 32 (λ (r : ℕ). r * r)

-- 0 is a case of its own
unfoldable pub root_case : ℕ → Option ℕ
root_case x = cond (eqb x 0) None (Some (square_root x))

-- a guess that isn't below the root of x, and fits half a word
pub record Guess (x r : ℕ) : Type 0 where
  pub above : x < (r + 1) * (r + 1)
  pub small : r < 2 ^ 32
