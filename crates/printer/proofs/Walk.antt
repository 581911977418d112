-- Walking the input: the lines of bytes that aren't all read are those of what `read` answers of them, and the lines from the place
-- after it on. The bound on the count of lines never tells, since each joint takes bytes. Assumes nothing.
use Prim.Native.Nat.{ℕ, zero, suc, ◌+◌, ◌≤◌, ◌<◌}
use mathlib.Core.Path.{◌≡◌, refl, ap, ◌∙◌}
use mathlib.Core.List.{List, [], ◌∷◌, ◌++◌}
use mathlib.Core.Bool.{Bool, true, false}
use native.Mathlib.Omega.{arith}
use borrow.Author.Tests.{eqb-true, eqb-false, lt-ltb, le-ltb}
use lib.Dec.{eqb}
use lib.ListN.{length, drop}
use Rattle.joint.specs.declared.Joint.{Joint}
use Rattle.numbers.specs.Parse.{Parse, got, refused}
use Rattle.jointfile.specs.File.{read_joint, answer, reading, left_of, rest_of}
use Rattle.jointfile.proofs.Ends.{joint_shorter}
use Rattle.jointfile.proofs.Places.{next_left, read_taken, read_refused}
use Rattle.line.specs.Line.{Line}
use Rattle.printer.specs.Sheet.{sheet_kind, most_input, joint_lines, lines_then, lines_within, lines_of, over_long, sheet_lines}
use Rattle.printer.specs.Answers.{reading_lines}

-- any bound that the count of bytes keeps gives the same lines
lines_same : (most most' number : ℕ) (bytes : List ℕ) → length bytes ≤ most → length bytes ≤ most'
    → lines_within most number bytes ≡ lines_within most' number bytes
unfolding lines_within
lines_same zero zero number [] h h' = refl
lines_same zero (suc most') number [] h h' = refl
lines_same (suc most) zero number [] h h' = refl
lines_same (suc most) (suc most') number [] h h' = refl
lines_same zero most' number (byte ∷ bytes) h h' = absurd (omega arith)
lines_same (suc most) zero number (byte ∷ bytes) h h' = absurd (omega arith)
lines_same (suc most) (suc most') number (byte ∷ bytes) h h' =
    go (lines_same most most' (number + 1)) (read_joint sheet_kind (byte ∷ bytes)) refl
  where
    go : ((left : List ℕ) → length left ≤ most → length left ≤ most'
        → lines_within most (number + 1) left ≡ lines_within most' (number + 1) left)
        → (parse : Parse Joint) → read_joint sheet_kind (byte ∷ bytes) ≡ parse
        → lines_then (lines_within most (number + 1)) number parse ≡ lines_then (lines_within most' (number + 1)) number parse
    go same (got joint left) e =
        let shorter = joint_shorter sheet_kind (byte ∷ bytes) joint left e in
        rw (same left (omega arith) (omega arith))
    go same (refused r) e = refl

pub lines_none : (number : ℕ) → lines_of number [] ≡ []
unfolding lines_within
lines_none number = refl

pub lines_next : (number : ℕ) (bytes : List ℕ) → 0 < length bytes
    → lines_of number bytes
    ≡ reading_lines number (reading sheet_kind bytes) ++ lines_of (number + 1) (drop (reading sheet_kind bytes).next bytes)
unfolding lines_within reading_lines
lines_next number [] some = absurd (omega arith)
lines_next number (byte ∷ bytes) some = go (eqb (reading sheet_kind input).refusal 0) refl
  where
    input : List ℕ
    input = byte ∷ bytes

    others : List ℕ → List Line
    others = lines_within (length bytes) (number + 1)

    go : (t : Bool) → eqb (reading sheet_kind input).refusal 0 ≡ t
        → lines_then others number (read_joint sheet_kind input)
        ≡ reading_lines number (reading sheet_kind input) ++ lines_of (number + 1) (drop (reading sheet_kind input).next input)
    go true e =
        let taken = read_taken sheet_kind input (eqb-true (reading sheet_kind input).refusal 0 e) in
        let joint = (reading sheet_kind input).joint in
        let left = rest_of sheet_kind input in
        let shorter = joint_shorter sheet_kind input joint left taken in
        ap (lines_then others number) taken
        ∙ rw (next_left sheet_kind input, e)
        (ap (λ (lines : List Line). joint_lines number joint ++ lines)
        (lines_same (length bytes) (length left) (number + 1) left (omega arith) (omega arith)))
    go false e =
        let turned = read_refused sheet_kind input (eqb-false (reading sheet_kind input).refusal 0 e) in
        let none : drop (reading sheet_kind input).next input ≡ [] = next_left sheet_kind input ∙ ap left_of turned in
        ap (lines_then others number) turned ∙ rw (none, e)

-- a place after what was read
pub next_positive : (bytes : List ℕ) → 0 < length bytes → 0 < (reading sheet_kind bytes).next
next_positive bytes some = go (read_joint sheet_kind bytes) refl
  where
    go : (parse : Parse Joint) → read_joint sheet_kind bytes ≡ parse → 0 < (answer (length bytes) parse).next
    go (got joint left) e = let shorter = joint_shorter sheet_kind bytes joint left e in omega arith
    go (refused r) e = some

-- ---- the sheet, case by case

pub sheet_over_long : (bytes : List ℕ) → most_input < length bytes → sheet_lines bytes ≡ over_long ∷ []
unfolding sheet_lines
sheet_over_long bytes long = rw (lt-ltb most_input (length bytes) long)

pub sheet_joints : (bytes : List ℕ) → length bytes ≤ most_input → sheet_lines bytes ≡ lines_of 1 bytes
unfolding sheet_lines
sheet_joints bytes short = rw (le-ltb most_input (length bytes) short)
