-- Checks in the order of the rules, each with its number, and the first that fails: how the fields of a joint are checked, and how Work's
-- refusals are tried. A list may be tried in two parts, cut at a number. Assumes nothing.
use Rattle.std.specs.Prelude.{ℕ, Bool, cond, List, [], ◌∷◌, eqb}

-- a number, and whether what it stands for holds
abbrev pub Check : Type 0
Check = ℕ × Bool

-- what comes of some checks: of the first that fails, by its number, or of none
unfoldable pub first_failing : {A : Type 0} → (passed : A) → (failed : ℕ → A) → List Check → A
first_failing passed failed [] = passed
first_failing passed failed (check ∷ checks) = cond check.1 (first_failing passed failed checks) (failed check.0)

-- a list cut at the check that has a number: the checks before it, which are all where none has it
unfoldable pub checks_before : (number : ℕ) → List Check → List Check
checks_before number [] = []
checks_before number (check ∷ checks) = cond (eqb number check.0) [] (check ∷ checks_before number checks)

-- and those from it on
unfoldable pub checks_from : (number : ℕ) → List Check → List Check
checks_from number [] = []
checks_from number (check ∷ checks) = cond (eqb number check.0) (check ∷ checks) (checks_from number checks)
