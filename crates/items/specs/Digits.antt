-- A number as text, in base ten (rule 12.1): no leading zeros, and one digit for 0.
-- Assumes nothing.
use Rattle.std.specs.Prelude.{ℕ, zero, suc, ◌+◌, ◌/◌, ◌%◌, List, [], ◌∷◌, ◌++◌, cond, ltb}

-- a digit's byte; 48 is that of 0
abbrev pub digit : ℕ → ℕ
digit d = 48 + d

-- at most so many digits, the lowest last
unfoldable pub digits : ℕ → ℕ → List ℕ
digits zero n = []
digits (suc most) n = cond (ltb n 10) (digit n ∷ []) (digits most (n / 10) ++ (digit (n % 10) ∷ []))

-- All of them: a number of 64 bits has twenty at most.
abbrev pub decimal : ℕ → List ℕ
decimal n = digits 20 n
