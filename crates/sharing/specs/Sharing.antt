-- How limits become row forces, which lists of forces compete, and the moment of a list (rules 6, and 7.1 for a table).
-- Every definition is over any count of rows n, 0 among them.
-- Assumes nothing.
use Rattle.std.specs.Prelude.{◌≡◌, ℕ, zero, suc, ◌+◌, ◌-◌, ◌*◌, ◌/◌, ◌≤◌, ◌<◌, min, List, [], ◌∷◌, ◌++◌, length, get_or, drop}
use Rattle.sharing.specs.Groups.{Table, total, group_sum}

-- The least of f 0, f 1, .. f k.
unfoldable pub least_up_to : (ℕ → ℕ) → ℕ → ℕ
least_up_to f zero = f 0
least_up_to f (suc k) = min (least_up_to f k) (f (suc k))

-- rule 6.1: the least limit of the groups that begin at the same row and reach 0, 1, .. rows further, up to the last of n rows
unfoldable pub lowered : Table → ℕ → Table
unfolding least_up_to
lowered limit n i j = least_up_to (λ further. limit i (j + further)) (n - suc j)

-- rule 6.2: the lowered limit less what the group's rows above have got, of the group that begins at row i and ends at the next row:
-- `above` is what the rows above have got. No group's rows above have got more than its lowered limit, so the difference is never cut at 0
-- (`sum_le` in proofs/Sums.antt).
unfoldable pub allowance : Table → ℕ → List ℕ → ℕ → ℕ
unfolding lowered
allowance limit n above i = lowered limit n i (length above) - total (drop i above)

-- rule 6.2: the least of those, over the groups that end at the row
unfoldable pub next_force : Table → ℕ → List ℕ → ℕ
unfolding allowance
next_force limit n above = least_up_to (allowance limit n above) (length above)

-- rule 6.2, from the top: the forces of the first k of n rows
unfoldable pub forces_down_to : Table → ℕ → ℕ → List ℕ
unfolding next_force
forces_down_to limit n zero = []
forces_down_to limit n (suc k) = forces_down_to limit n k ++ (next_force limit n (forces_down_to limit n k) ∷ [])

-- The forces of all n rows.
unfoldable pub shared : Table → ℕ → List ℕ
unfolding forces_down_to
shared limit n = forces_down_to limit n n

-- Rule 7.1 for any table of limits: a list competes when it has one force for each row, and for every group a sum of at most its limit,
-- before any lowering. The cap and the triangle's limits are no separate clauses here, since a table may have them among its
-- limits (`with_cap`, `limits_in`); rule 7.1 whole is `CompetesFor` of the crate `connection`.
pub record Competes (limit : Table) (n : ℕ) (forces : List ℕ) : Type 0 where
  pub rows : length forces ≡ n
  pub keeps : (i j : ℕ) → i ≤ j → j < n → group_sum forces i j ≤ limit i j

-- rule 6.4: Z
unfoldable pub moment : List ℕ → List ℕ → ℕ
moment [] forces = 0
moment (lever ∷ levers) [] = 0
moment (lever ∷ levers) (force ∷ forces) = force * lever + moment levers forces

-- rule 6.4: Z in newton metres
unfoldable pub newton_metres : ℕ → ℕ
newton_metres z = z / 10000

-- One lever for each row, each below the one above it, and none below 1.
pub record Falling (levers : List ℕ) (n : ℕ) : Type 0 where
  pub rows : length levers ≡ n
  pub falls : (k : ℕ) → suc k < n → get_or levers (suc k) 0 < get_or levers k 0
  pub positive : (k : ℕ) → k < n → 1 ≤ get_or levers k 0
