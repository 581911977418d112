-- What printing a sheet into a lent buffer comes to, and the figures that its code goes by. Rule 13.2 of the sheet, and what serves the
-- code. Assumes nothing.
use Rattle.std.specs.Prelude.{ℕ, ◌+◌, ◌-◌, ◌*◌, ◌/◌, List, [], ◌∷◌, cond, leb, eqb, length, Result, Ok, Err}
use Rattle.buffers.specs.Put.{at_front}
use Rattle.jointfile.specs.File.{Reading}
use Rattle.jointfile.specs.Answers.{least_two_faced}
use Rattle.line.specs.Line.{Line, refusal_line}
use Rattle.line.specs.Longest.{most_line}
use Rattle.printer.specs.Sheet.{most_input, joint_lines}
use Rattle.printer.specs.declared.NoRoom.{NoRoom}

-- what printing gives: the count of bytes, or that there is no room for all of them; and the buffer at exit
pub data Printing : Type 0 where
  whole : (size : ℕ) (buffer : List ℕ) → Printing
  no_room : (buffer : List ℕ) → Printing

-- The bytes stand at the buffer's front, which is as it was past them. Where they don't fit whole, all of it is.
unfoldable pub printing : (bytes buffer : List ℕ) → Printing
printing bytes buffer = cond (leb (length bytes) (length buffer)) (whole (length bytes) (at_front bytes buffer)) (no_room buffer)

-- What each answer says, with the buffer at exit.
abbrev pub printed_meaning : Result ℕ NoRoom → List ℕ → Printing
printed_meaning (Ok size) buffer = whole size buffer
printed_meaning (Err none) buffer = no_room buffer

-- No line takes fewer bytes of input, but that of what is left: two lines take the shortest file of two faces.
abbrev pub least_per_line : ℕ
least_per_line = least_two_faced / 2

-- No sheet of `count` bytes of input is longer: a line for each `least_per_line` of them, and one for what is left.
abbrev pub most_printed : (count : ℕ) → ℕ
most_printed count = (count + (least_per_line - 1)) / least_per_line * most_line

-- No sheet is longer.
abbrev pub most_sheet : ℕ
most_sheet = most_printed most_input

-- the lines of a joint by `read`'s answer
unfoldable pub reading_lines : (number : ℕ) → Reading → List Line
reading_lines number reading =
    cond (eqb reading.refusal 0) (joint_lines number reading.joint) (refusal_line number (reading.refusal ∷ []) ∷ [])
