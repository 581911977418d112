-- Runs of numbers (rules 9.2 and 9.3): so many read one after another, and their stored forms one after another.
-- Assumes nothing.
use Rattle.std.specs.Prelude.{ℕ, zero, suc, List, [], ◌∷◌, ◌++◌, Bool, true, ◌&&◌, eqb}
use Rattle.numbers.specs.Parse.{Parse, got, and_then}
use Rattle.numbers.specs.Number.{stored, read_number}

-- so many numbers, one after another
unfoldable pub read_numbers : ℕ → List ℕ → Parse (List ℕ)
read_numbers zero bytes = got [] bytes
read_numbers (suc count) bytes =
    and_then (read_number bytes) (λ x left. and_then (read_numbers count left) (λ xs rest. got (x ∷ xs) rest))

-- the stored forms of numbers, one after another
unfoldable pub stored_all : List ℕ → List ℕ
stored_all [] = []
stored_all (x ∷ xs) = stored x ++ stored_all xs

-- each of the numbers is 0
unfoldable pub all_zero : List ℕ → Bool
all_zero [] = true
all_zero (x ∷ xs) = eqb x 0 && all_zero xs
