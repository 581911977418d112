-- What printing comes to, where the bytes fit and where they don't. Then the walk over the input, which measures the lines or puts them:
-- what holds where it begins a turn, that a turn carries it on, and what it comes to. Assumes nothing.
use Prim.Native.Nat.{ℕ, ◌+◌, ◌-◌, ◌≤◌, ◌<◌}
use mathlib.Core.Path.{◌≡◌, refl, sym, ap, ◌∙◌}
use mathlib.Core.List.{List, [], ◌∷◌, ◌++◌, append-nil}
use Rattle.std.specs.Prelude.{Ok, Err}
use mathlib.Core.Bool.{false, true}
use native.Mathlib.Omega.{arith}
use native.Mathlib.Nat.{zero-add}
use borrow.Author.Tests.{le-leb, lt-leb, leb-true, eqb-true, eqb-false}
use lib.Dec.{leb}
use Rattle.std.specs.Bool.{◌==◌}
use lib.ListN.{length, take, drop, length-drop}
use lib.Seq.{drop-length, take_all}
use Rattle.jointfile.specs.File.{Reading, reading}
use Rattle.jointfile.specs.Answers.{reading_meaning, read_refusal}
use Rattle.jointfile.specs.declared.Reading.{Reading as ReadJoint}
use Rattle.jointfile.specs.declared.ReadRefusal.{ReadRefusal}
use Rattle.jointfile.specs.declared.ReadRefusal.TheVariants.{BytesEnd, WrongForm, RowCount}
use Rattle.jointfile.proofs.Places.{next_within}
use Rattle.buffers.specs.Put.{at_front, Put}
use Rattle.buffers.proofs.Puts.{sets_front}
use Rattle.items.specs.Digits.{digits}
use Rattle.items.specs.Items.{spaced}
use Rattle.line.specs.Line.{concatenated, refusal_line}
use Rattle.line.proofs.Lines.{concatenated-append}
use Rattle.printer.specs.Sheet.{sheet_kind, joint_lines, lines_of, over_long}
use Rattle.printer.specs.Answers.{whole, no_room, printing, reading_lines}
use Rattle.printer.proofs.Walk.{lines_none, lines_next, next_positive}

-- ---- what printing comes to

module _ (bytes buffer : List ℕ) where
  pub printed_short : leb (length bytes) (length buffer) ≡ false → no_room buffer ≡ printing bytes buffer
  unfolding printing
  printed_short short = rw short

  pub printed_whole : {exit : List ℕ} {size : ℕ} → leb (length bytes) (length buffer) ≡ true → Put buffer 0 bytes exit size
      → whole size exit ≡ printing bytes buffer
  unfolding printing
  printed_whole {exit} {size} fits put =
      let front : exit ≡ at_front bytes buffer = put.stores ∙ sets_front bytes buffer (leb-true (length bytes) (length buffer) fits) in
      let count : size ≡ length bytes = put.place ∙ zero-add (length bytes) in
      rw (fits, front, count)

-- `R 4` alone
pub over_long_short : (buffer : List ℕ) → length buffer < 4 → no_room buffer ≡ printing (concatenated (over_long ∷ [])) buffer
unfolding concatenated spaced digits
over_long_short buffer short = printed_short (82 ∷ 32 ∷ 52 ∷ 10 ∷ []) buffer (lt-leb 4 (length buffer) short)

pub over_long_put : (buffer : List ℕ) → 4 ≤ length buffer
    → whole 4 ((82 ∷ 32 ∷ 52 ∷ 10 ∷ []) ++ drop 4 buffer) ≡ printing (concatenated (over_long ∷ [])) buffer
unfolding concatenated spaced digits printing
over_long_put buffer fits = rw (le-leb 4 (length buffer) fits) refl

-- ---- the walk

-- the bytes of the lines of the joints that are left, the first of them joint `number`
abbrev pub lines_left : (number : ℕ) (left : List ℕ) → List ℕ
lines_left number left = concatenated (lines_of number left)

-- What holds where the walk begins a turn, of what takes the lines: it has room for those left, and with them it will have taken all. Joints
-- are no more than the bytes before what is left.
pub record WalkHead {S : Type 0} (has_room : S → List ℕ → Type 0) (takes : S → List ℕ → S → Type 0) (entry : S) (input : List ℕ) (sink : S) (number : ℕ) (left : List ℕ) : Type 0 where
  pub count : number + length left ≤ 1 + length input
  pub room : has_room sink (lines_left number left)
  pub carries : (exit : S) → takes sink (lines_left number left) exit → takes entry (lines_left 1 input) exit

-- whether any bytes are left, in the code's words
pub some_left : (left : List ℕ) → false ≡ (length left == 0) → 0 < length left
some_left left test = omega (arith, eqb-false (length left) 0 (sym test))

pub no_lines_left : (number : ℕ) (left : List ℕ) → true ≡ (length left == 0) → lines_left number left ≡ []
unfolding concatenated
no_lines_left number [] test = rw (lines_none number) refl
no_lines_left number (byte ∷ bytes) test = absurd (omega (arith, eqb-true (length (byte ∷ bytes)) 0 (sym test)))

-- the slice of what is left after a place is that
pub left_after : (left : List ℕ) (next : ℕ) → take (length left - next) (drop next left) ≡ drop next left
left_after left next = take_all (length left - next) (drop next left) (omega (arith, length-drop next left))

-- What was read of bytes that are some: the lines left are those of a joint and of what is left after it, or that of a refusal.
module _ (number : ℕ) (left : List ℕ) (some : 0 < length left) where
  -- by any answer
  abbrev after : Reading → List ℕ
  after answer = concatenated (reading_lines number answer) ++ lines_left (number + 1) (drop answer.next left)

  by_answer : {answer : Reading} → answer ≡ reading sheet_kind left → lines_left number left ≡ after answer
  by_answer is = ap concatenated (lines_next number left some) ∙ concatenated-append _ _ ∙ sym (ap after is)

  pub lines_read : (read : ReadJoint) → reading_meaning (length left) (Ok read) ≡ reading sheet_kind left
      → lines_left number left ≡ concatenated (joint_lines number read.joint) ++ lines_left (number + 1) (drop read.next left)
  unfolding reading_lines
  lines_read read is = by_answer is

  pub lines_refused : (refusal : ReadRefusal) → reading_meaning (length left) (Err refusal) ≡ reading sheet_kind left
      → lines_left number left ≡ refusal_line number (read_refusal refusal ∷ [])
  unfolding reading_lines concatenated refusal_line
  lines_refused refusal is =
      by_answer is
      ∙ ap (λ (l : List ℕ). concatenated (reading_lines number (reading_meaning (length left) (Err refusal))) ++ l) none
      ∙ append-nil _ ∙ one refusal
    where
      none : lines_left (number + 1) (drop (length left) left) ≡ []
      none = rw (drop-length left, lines_none (number + 1)) refl

      one : (refusal : ReadRefusal)
          → concatenated (reading_lines number (reading_meaning (length left) (Err refusal)))
          ≡ refusal_line number (read_refusal refusal ∷ [])
      one BytesEnd = append-nil _
      one WrongForm = append-nil _
      one RowCount = append-nil _

-- the place after a joint lies past its first byte, and in the bytes
pub next_onward : (left : List ℕ) (read : ReadJoint) → 0 < length left
    → reading_meaning (length left) (Ok read) ≡ reading sheet_kind left
    → (0 < read.next) × (read.next ≤ length left)
next_onward left read some is =
    let same : read.next ≡ (reading sheet_kind left).next = ap (λ (r : Reading). r.next) is in
    (omega (arith, same, next_positive left some), omega (arith, same, next_within sheet_kind left))
