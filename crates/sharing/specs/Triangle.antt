-- P207's triangle (rule 6.5): each row below a reference row gets a further limit on itself alone, by the force of that row and the levers
-- of both. Over any table of limits and any count of rows.
-- Assumes nothing.
use Rattle.std.specs.Prelude.{◌≡◌, ℕ, suc, ◌*◌, ◌/◌, ◌≤◌, ◌<◌, min, cond, ◌&&◌, List, get_or, take, eqb, ltb, Option, None, Some, IfSome}
use Rattle.sharing.specs.Groups.{Table}
use Rattle.sharing.specs.Sharing.{shared}

-- The levers of all rows, and the reference row.
pub record Triangle : Type 0 where
  pub levers : List ℕ
  pub reference : ℕ

-- rule 6.5: the limit that is added on a row: the reference row's force × the row's lever ÷ the reference row's lever
abbrev pub added_limit : Triangle → (force row : ℕ) → ℕ
added_limit triangle force row = force * get_or triangle.levers row 0 / get_or triangle.levers triangle.reference 0

-- rule 6.5: limits with those added, each on the group of its row alone
unfoldable pub with_added : Triangle → (force : ℕ) → Table → Table
with_added triangle force limit i j =
    cond (ltb triangle.reference i && eqb i j) (min (limit i j) (added_limit triangle force i)) (limit i j)

-- what the reference row gets under the limits as they are
abbrev pub reference_force : Triangle → Table → (n : ℕ) → ℕ
reference_force triangle limit n = get_or (shared limit n) triangle.reference 0

-- rule 6.5: the limits under which n rows are shared, in a triangle or without
abbrev pub limits_in : Option Triangle → Table → (n : ℕ) → Table
limits_in None limit n = limit
limits_in (Some triangle) limit n = with_added triangle (reference_force triangle limit n) limit

-- a list of forces for n rows keeps the limits that are added by a force of the reference row
abbrev pub KeepsAdded : Triangle → (force n : ℕ) → (forces : List ℕ) → Type 0
KeepsAdded triangle force n forces =
    (row : ℕ) → triangle.reference < row → row < n → get_or forces row 0 ≤ added_limit triangle force row

-- where there is a triangle, by the force that the program's list has for the reference row
abbrev pub KeepsTriangle : Option Triangle → (n : ℕ) → (program forces : List ℕ) → Type 0
KeepsTriangle triangle n program forces = IfSome triangle (λ t. KeepsAdded t (get_or program t.reference 0) n forces)

-- The law that the rule rests on: whatever the force, the added limits leave the rows down to the reference as they were, so the reference
-- row gets the same with them and without.
abbrev pub ReferenceStays : Triangle → (force : ℕ) → Table → (n : ℕ) → Type 0
ReferenceStays triangle force limit n =
    (k : ℕ) → k ≤ suc triangle.reference → take k (shared (with_added triangle force limit) n) ≡ take k (shared limit n)

-- Where no row stands below the reference, nothing is added.
abbrev pub NoneBelowReference : Triangle → Table → (n : ℕ) → Type 0
NoneBelowReference triangle limit n = n ≤ suc triangle.reference → shared (limits_in (Some triangle) limit n) n ≡ shared limit n
