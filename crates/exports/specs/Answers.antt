-- What an exported call answers, and what it leaves in all that it was lent. Rule 13.2, demand 1 of the calls: but for the answer 0,
-- what was lent is as it was. Assumes nothing.
use Rattle.std.specs.Prelude.{ℕ, ◌+◌, ◌*◌, Bool, cond, eqb}

-- rule 13.1: a refusal as one number: its own, the field of 10 times 256, and the face of a joint that has two times 65536; 0 is no
-- refusal
abbrev pub answer_number : (number field face : ℕ) → ℕ
answer_number number field face = number + 256 * field + 65536 * face

-- the answer of a call, and what was lent, at exit
pub record Answered (Lent : Type 0) : Type 0 where
  pub answer : ℕ
  pub lent : Lent

abbrev pub answers : {Lent : Type 0} → ℕ → Lent → Answered Lent
answers answer lent = record { answer = answer; lent = lent }

-- 100 where a slice is too short, then the refusal, and else 0 and what is put. `entry` is what was lent.
unfoldable pub answered : {Lent : Type 0} → (enough : Bool) (number field face : ℕ) (put entry : Lent) → Answered Lent
answered enough number field face put entry =
    cond enough (cond (eqb number 0) (answers 0 put) (answers (answer_number number field face) entry)) (answers 100 entry)
