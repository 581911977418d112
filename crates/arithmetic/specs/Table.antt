-- Small tables as papers print them: a row of keys, and under it a row of values. A key is found by a test, which says whether the
-- table goes by equal keys or by bands. Assumes nothing.
use Rattle.std.specs.Prelude.{ℕ, suc, Bool, true, false, cond, ◌||◌, ◌&&◌, List, [], ◌∷◌, eqb, leb}

-- the test passes at some key
abbrev pub any : (ℕ → Bool) → List ℕ → Bool
any test [] = false
any test (k ∷ keys) = test k || any test keys

-- what stands under the first key at which the test passes; 0 where there is none
abbrev pub find : (ℕ → Bool) → List ℕ → List ℕ → ℕ
find test [] values = 0
find test (k ∷ keys) [] = 0
find test (k ∷ keys) (v ∷ values) = cond (test k) v (find test keys values)

-- a number is one of a list's
abbrev pub one_of : List ℕ → ℕ → Bool
one_of keys x = any (eqb x) keys

-- a table by key
abbrev pub lookup : List ℕ → List ℕ → ℕ → ℕ
lookup keys values x = find (eqb x) keys values

-- a table by bands, each up to its key and the key included
abbrev pub up_to : List ℕ → List ℕ → ℕ → ℕ
up_to keys values x = find (leb x) keys values

-- the test passes at each entry and its place, counted from i
abbrev pub every : (ℕ → ℕ → Bool) → ℕ → List ℕ → Bool
every f i [] = true
every f i (x ∷ xs) = f i x && every f (suc i) xs
