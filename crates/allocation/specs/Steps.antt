-- What the steps of sharing require and leave behind: nothing here states a rule.
-- Assumes nothing.
use Rattle.std.specs.Prelude.{◌≡◌, ℕ, ◌+◌, ◌-◌, ◌≤◌, ◌<◌, min, cond, List, length, get_or, ltb, Option, None, Some, IfSome}
use Rattle.joint.specs.Ranges.{row_counts, most_lever}
use Rattle.joint.specs.Places.{eight_places}
use Rattle.sharing.specs.Groups.{Table, group_count, listed, most_limit}
use Rattle.sharing.specs.Sharing.{lowered, shared}
use Rattle.sharing.specs.Triangle.{Triangle, added_limit, limits_in}
use Rattle.allocation.specs.declared.LentTriangle.{LentTriangle}

-- At most eight rows, a limit for each group, and none so large that a sum could not be held.
pub record Shareable (n : ℕ) (limits : List ℕ) : Type 0 where
  pub rows : n ≤ row_counts.high
  pub enough : group_count n ≤ length limits
  pub bounded : (k : ℕ) → k < group_count n → get_or limits k 0 ≤ most_limit

-- a triangle whose levers are lent, or none
abbrev pub triangle_of : Option LentTriangle → Option Triangle
triangle_of None = None
triangle_of (Some lent) = Some (record { levers = lent.levers.now; reference = lent.reference })

-- Levers that a triangle of n rows can be worked from: one for each row, none so large that its product with a force could not be held, and
-- the reference row's not 0.
pub record LeversFit (triangle : Triangle) (n : ℕ) : Type 0 where
  pub rows : length triangle.levers ≡ n
  pub positive : triangle.reference < n → 1 ≤ get_or triangle.levers triangle.reference 0
  pub high : (row : ℕ) → row < n → get_or triangle.levers row 0 ≤ most_lever

-- where there is a triangle
abbrev pub TriangleFits : Option Triangle → (n : ℕ) → Type 0
TriangleFits triangle n = IfSome triangle (λ t. LeversFit t n)

-- What the added limit of a row is worked from: a triangle of at most eight rows, this one among them, and forces of which none is too
-- large.
pub record AddedAsked (triangle : Option Triangle) (forces : List ℕ) (row : ℕ) : Type 0 where
  pub n : ℕ
  pub fits : TriangleFits triangle n
  pub few : n ≤ row_counts.high
  pub inside : row < n
  pub bounded : (k : ℕ) → get_or forces k 0 ≤ most_limit

-- the limit that is added on a row, where there is one
abbrev pub added_on : Option Triangle → (forces : List ℕ) (row : ℕ) → Option ℕ
added_on None forces row = None
added_on (Some t) forces row = cond (ltb t.reference row) (Some (added_limit t (get_or forces t.reference 0) row)) None

-- The forces of n rows under the limits of a list, in a triangle or without, in their eight places.
abbrev pub places_shared : Option Triangle → (n : ℕ) (limits : List ℕ) → List ℕ
places_shared triangle n limits = eight_places (shared (limits_in triangle (listed n limits) n) n)

-- The limits of the groups that begin at `row`, the shortest first, as a table; it is asked for no other row.
abbrev pub own_table : (limits : List ℕ) (row : ℕ) → Table
own_table limits row i j = get_or limits (j - row) 0

-- What counting the groups that begin at a row goes by: a limit for each, none too large, and what the rows above have got.
pub record Countable (limits : List ℕ) (row n above : ℕ) : Type 0 where
  pub inside : row < n
  pub rows : n ≤ row_counts.high
  pub places : n - row ≤ length limits
  pub bounded : (k : ℕ) → k < n - row → get_or limits k 0 ≤ most_limit
  pub small : above ≤ most_limit

-- The groups that begin at `row`, and end at row `next` or below, have been counted into the sums from the top: no such sum is
-- above what the rows above have got and the group's lowered limit together. The sums down to a row above `next` stay.
pub record Counted (limit : Table) (n row above next : ℕ) (sums₀ sums : List ℕ) : Type 0 where
  pub size : length sums ≡ length sums₀
  pub stay : (k : ℕ) → k < next → get_or sums k 0 ≡ get_or sums₀ k 0
  pub counted : (k : ℕ) → next ≤ k → k < n → get_or sums k 0 ≡ min (get_or sums₀ k 0) (above + lowered limit n row k)
