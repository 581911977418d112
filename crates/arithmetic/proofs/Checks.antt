-- The first of some checks that fails: what the first check decides, that of two lists one after another the second counts only where
-- all of the first hold, and, where an answer tells passing from failing, what it says of the checks. By induction over the list.
-- Assumes nothing.
use mathlib.Core.Path.{◌≡◌, refl, sym, ap, ◌∙◌}
use mathlib.Core.Bool.{Bool, true, false, cond}
use Prim.Native.Nat.{ℕ, zero, suc}
use mathlib.Core.List.{List, [], ◌∷◌, ◌++◌}
use lib.Dec.{T, eqb}
use lib.ListN.{get_or}
use Rattle.arithmetic.specs.Checks.{Check, first_failing, checks_before, checks_from}

module _ {A : Type 0} (passed : A) (failed : ℕ → A) where
  pub holds : (number : ℕ) (test : Bool) (checks : List Check) → test ≡ true
      → first_failing passed failed ((number, test) ∷ checks) ≡ first_failing passed failed checks
  unfolding first_failing
  holds number test checks e = rw e

  pub fails : (number : ℕ) (test : Bool) (checks : List Check) → test ≡ false
      → first_failing passed failed ((number, test) ∷ checks) ≡ failed number
  unfolding first_failing
  fails number test checks e = rw e

  pub none_left : first_failing passed failed [] ≡ passed
  unfolding first_failing
  none_left = refl

  pub one_after_another : (first second : List Check)
      → first_failing passed failed (first ++ second) ≡ first_failing (first_failing passed failed second) failed first
  unfolding first_failing
  one_after_another [] second = refl
  one_after_another (check ∷ first) second = ap (λ rest. cond check.1 rest (failed check.0)) (one_after_another first second)

  -- an answer that isn't the failure of the first check: the check holds, and the others decide
  pub held : (number : ℕ) (test : Bool) (checks : List Check) (answer : A)
      → first_failing passed failed ((number, test) ∷ checks) ≡ answer → (failed number ≡ answer → ⊥)
      → (test ≡ true) × (first_failing passed failed checks ≡ answer)
  unfolding first_failing
  held number true checks answer e other = (refl, e)
  held number false checks answer e other = absurd (other e)

-- the two parts of a list that is cut at a number are the list
pub cut_at : (number : ℕ) (checks : List Check) → checks_before number checks ++ checks_from number checks ≡ checks
unfolding checks_before checks_from
cut_at number [] = refl
cut_at number (check ∷ checks) = by_test (eqb number check.0) (cut_at number checks)
  where
    by_test : (here : Bool) → checks_before number checks ++ checks_from number checks ≡ checks
        → cond here [] (check ∷ checks_before number checks) ++ cond here (check ∷ checks) (checks_from number checks) ≡ check ∷ checks
    by_test true rest = refl
    by_test false rest = ap (λ others. check ∷ others) rest

-- what is made of the answer is made of each case
pub of_each : {A B : Type 0} (f : A → B) (passed : A) (failed : ℕ → A) (checks : List Check)
    → f (first_failing passed failed checks) ≡ first_failing (f passed) (λ number. f (failed number)) checks
unfolding first_failing
of_each f passed failed [] = refl
of_each f passed failed (check ∷ checks) = by_test check.1 (of_each f passed failed checks)
  where
    by_test : (test : Bool) → f (first_failing passed failed checks) ≡ first_failing (f passed) (λ number. f (failed number)) checks
        → f (cond test (first_failing passed failed checks) (failed check.0))
        ≡ cond test (first_failing (f passed) (λ number. f (failed number)) checks) (f (failed check.0))
    by_test true rest = rest
    by_test false rest = refl

-- the test of a list that has a number; true where none has it
unfoldable pub numbered : ℕ → List Check → Bool
numbered number [] = true
numbered number (check ∷ checks) = cond (eqb number check.0) check.1 (numbered number checks)

-- no check has the number 0
unfoldable pub positive : List Check → Bool
positive [] = true
positive ((zero, test) ∷ checks) = false
positive ((suc number, test) ∷ checks) = positive checks

-- an answer that is the failure of no number but 0: every test holds, wherever in the list it stands, and the answer is that of passing
pub numbered_holds : {A : Type 0} (passed : A) (failed : ℕ → A) (answer : A) → ((number : ℕ) → failed (suc number) ≡ answer → ⊥)
    → (checks : List Check) → T (positive checks) → first_failing passed failed checks ≡ answer
    → ((number : ℕ) → numbered number checks ≡ true) × (passed ≡ answer)
unfolding numbered positive
numbered_holds passed failed answer apart [] above e = ((λ number. refl), sym (none_left passed failed) ∙ e)
numbered_holds passed failed answer apart ((zero, test) ∷ checks) above e = absurd above
numbered_holds passed failed answer apart ((suc own, test) ∷ checks) above e =
    let first = held passed failed (suc own) test checks answer e (apart own) in
    let others = numbered_holds passed failed answer apart checks above first.1 in
    ((λ number. by_number (eqb number (suc own)) first.0 (others.0 number)), others.1)
  where
    by_number : (same : Bool) {rest : Bool} → test ≡ true → rest ≡ true → cond same test rest ≡ true
    by_number true own-holds rest-holds = own-holds
    by_number false own-holds rest-holds = rest-holds

-- passing and failing are told apart
module _ {A : Type 0} (passed : A) (failed : ℕ → A) (apart : (number : ℕ) → passed ≡ failed number → ⊥) where
  first_holds : (check : Check) (checks : List Check) → first_failing passed failed (check ∷ checks) ≡ passed
      → (check.1 ≡ true) × (first_failing passed failed checks ≡ passed)
  first_holds check checks e = held passed failed check.0 check.1 checks passed e (λ failure. apart check.0 (sym failure))

  -- every check of a list that passes holds; past its end nothing is asked
  pub all_hold : (checks : List Check) → first_failing passed failed checks ≡ passed → (place : ℕ) → T (get_or checks place (0, true)).1
  unfolding first_failing
  all_hold [] e place = tt
  all_hold (check ∷ checks) e zero = rw (first_holds check checks e).0 tt
  all_hold (check ∷ checks) e (suc place) = all_hold checks (first_holds check checks e).1 place

  -- where a list passes, those after it are left to answer
  pub goes_on : (first second : List Check) → first_failing passed failed first ≡ passed
      → first_failing passed failed (first ++ second) ≡ first_failing passed failed second
  unfolding first_failing
  goes_on [] second e = refl
  goes_on (check ∷ first) second e =
      let h = first_holds check first e in
      holds passed failed check.0 check.1 (first ++ second) h.0 ∙ goes_on first second h.1

  -- where one of a list fails, no check after it is asked
  pub stops : (first second : List Check) (number : ℕ) → first_failing passed failed first ≡ failed number
      → first_failing passed failed (first ++ second) ≡ failed number
  unfolding first_failing
  stops [] second number e = absurd (apart number e)
  stops (check ∷ first) second number e = held check.1 e (stops first second number)
    where
      held : (test : Bool) → cond test (first_failing passed failed first) (failed check.0) ≡ failed number
          → (first_failing passed failed first ≡ failed number → first_failing passed failed (first ++ second) ≡ failed number)
          → cond test (first_failing passed failed (first ++ second)) (failed check.0) ≡ failed number
      held true e rest = rest e
      held false e rest = e
