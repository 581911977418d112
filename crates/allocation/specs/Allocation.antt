-- What Allocate answers for a count and a list of limits (rules 10).
-- Assumes nothing.
use Rattle.std.specs.Prelude.{ℕ, Bool, true, ◌&&◌, List, [], ◌∷◌, length, take, replicate, leb}
use Rattle.arithmetic.specs.Checks.{Check, first_failing}
use Rattle.arithmetic.specs.Range.{within}
use Rattle.joint.specs.Ranges.{row_counts}
use Rattle.joint.specs.Places.{eight_places}
use Rattle.sharing.specs.Groups.{group_count, listed, most_limit}
use Rattle.sharing.specs.Sharing.{shared}

-- what Allocate answers
pub record Allocation : Type 0 where
  -- the refusal's number, 0 when nothing is refused
  pub refusal : ℕ
  -- newtons, row 1 first; 0 past the last row, and everywhere in a refusal
  pub forces : List ℕ

-- rule 10.2: whether none of them is above the most that is taken
unfoldable pub none_above : ℕ → List ℕ → Bool
none_above most [] = true
none_above most (limit ∷ limits) = leb limit most && none_above most limits

-- rule 10.3: in a refusal all eight places are 0
abbrev pub refused_allocation : ℕ → Allocation
refused_allocation number = record { refusal = number; forces = replicate 8 0 }

-- rule 10.2: each refusal's number with the test that lets the limits pass, in order; further limits aren't looked at
unfoldable pub allocate_refusals : ℕ → List ℕ → List Check
unfolding none_above
allocate_refusals n limits =
    (3, within row_counts n)
    ∷ (7, leb (group_count n) (length limits))
    ∷ (8, none_above most_limit (take (group_count n) limits))
    ∷ []

-- The first refusal whose test fails, and else the forces; 0 is no refusal.
unfoldable pub allocated : ℕ → List ℕ → Allocation
unfolding allocate_refusals
allocated n limits =
    first_failing (record { refusal = 0; forces = eight_places (shared (listed n limits) n) }) refused_allocation (allocate_refusals n limits)
