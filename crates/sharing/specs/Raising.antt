-- How far one limit moves the figure: what the limit of one row group, raised, does to sums and moment (rule 7.3).
-- Assumes nothing.
use Rattle.std.specs.Prelude.{◌≡◌, ℕ, ◌+◌, ◌*◌, ◌≤◌, ◌<◌, cond, ◌&&◌, List, get_or, take, eqb, Some}
use Rattle.sharing.specs.Groups.{Table, total}
use Rattle.sharing.specs.Sharing.{shared, Falling, moment}
use Rattle.sharing.specs.Triangle.{Triangle, limits_in}

-- The limit of the group of rows `first` to `last` goes up by so many newtons.
pub record Raise : Type 0 where
  pub first : ℕ
  pub last : ℕ
  pub newtons : ℕ

-- The table after the raise: every other group keeps its limit.
unfoldable pub raised : Raise → Table → Table
raised raise limit i j = cond (eqb i raise.first && eqb j raise.last) (limit i j + raise.newtons) (limit i j)

-- How far the forces of n rows move, from those before the raise to those after it.
pub record MovesWithin (raise : Raise) (n : ℕ) (before after : List ℕ) : Type 0 where
  -- a sum from the top that ends above the group's first row doesn't move
  pub above_stays : (k : ℕ) → k ≤ raise.first → total (take k after) ≡ total (take k before)
  -- no sum from the top falls, and none rises by more than the limit did
  pub sum_falls_nowhere : (k : ℕ) → total (take k before) ≤ total (take k after)
  pub sum_rises_within : (k : ℕ) → total (take k after) ≤ total (take k before) + raise.newtons
  -- Z doesn't fall either, and rises by no more than the raise times the lever of the group's first row
  pub moment_falls_nowhere : (levers : List ℕ) → Falling levers n → moment levers before ≤ moment levers after
  pub moment_rises_within : (levers : List ℕ) → Falling levers n
      → moment levers after ≤ moment levers before + raise.newtons * get_or levers raise.first 0

-- The theorem about tables, for any count of rows. Where `first` to `last` are no group of the n rows, nothing moves.
abbrev pub SharedMovesWithin : Raise → Table → ℕ → Type 0
SharedMovesWithin raise limit n = MovesWithin raise n (shared limit n) (shared (raised raise limit) n)

-- The same in a triangle (rule 6.5), where the group begins below the reference row: that row's force stays, and with it the added limits.
abbrev pub MovesWithinTriangle : Raise → Triangle → Table → ℕ → Type 0
MovesWithinTriangle raise triangle limit n =
    triangle.reference < raise.first
    → MovesWithin raise n (shared (limits_in (Some triangle) limit n) n) (shared (limits_in (Some triangle) (raised raise limit) n) n)
