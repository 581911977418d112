-- Row groups and tables of their limits (rules 1.3, 6.3 and 10.1).
-- Rows count from 0 here and in the code, from 1 in the rules and in print: group 1–3 there is rows 0 to 2 here.
-- Assumes nothing.
use Rattle.std.specs.Prelude.{ℕ, zero, suc, ◌+◌, ◌-◌, ◌*◌, ◌/◌, min, cond, ◌&&◌, List, [], ◌∷◌, get_or, take, drop, eqb}

-- The limit, in newtons, of the group of rows i to j.
abbrev pub Table : Type 0
Table = ℕ → ℕ → ℕ

abbrev pub total : List ℕ → ℕ
total [] = 0
total (x ∷ xs) = x + total xs

-- What a list's forces on rows i to j add up to.
unfoldable pub group_sum : List ℕ → ℕ → ℕ → ℕ
group_sum forces i j = total (take (suc j - i) (drop i forces))

-- rule 6.3: the cap joins the limits, as one on the group of all rows
unfoldable pub with_cap : Table → ℕ → ℕ → Table
with_cap limit n cap i j = cond (eqb i 0 && eqb (suc j) n) (min (limit i j) cap) (limit i j)

-- rule 10.1's order, 1–1, 1–2, .. 1–n, 2–2 and so on: how many groups stand before those that begin at row i
unfoldable pub groups_above : ℕ → ℕ → ℕ
groups_above n zero = 0
groups_above n (suc i) = groups_above n i + (n - i)

-- the place of the limit of rows i to j in that order, from 0
abbrev pub place_of : ℕ → ℕ → ℕ → ℕ
place_of n i j = groups_above n i + (j - i)

-- how many groups n rows have
unfoldable pub group_count : ℕ → ℕ
group_count n = n * (n + 1) / 2

-- The table that a list of limits in that order is.
unfoldable pub listed : ℕ → List ℕ → Table
listed n limits i j = get_or limits (place_of n i j) 0

-- rule 10.2: no limit above this is taken
abbrev pub most_limit : ℕ
most_limit = 4000000000
