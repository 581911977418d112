-- The sheet (rules 12) as a definition on bytes: joint files end to end in, lines out. Assumes nothing.
use Rattle.std.specs.Prelude.{ℕ, zero, suc, ◌+◌, List, [], ◌∷◌, ◌++◌, cond, ltb, length}
use Rattle.bolttable.specs.Loading.{built_in}
use Rattle.joint.specs.Faces.{first_rows}
use Rattle.joint.specs.declared.Joint.{Joint}
use Rattle.numbers.specs.Parse.{Parse, got, refused}
use Rattle.jointfile.specs.File.{read_joint}
use Rattle.jointfile.specs.declared.FileKind.{FileKind}
use Rattle.jointfile.specs.declared.FileKind.TheVariants.{New}
use Rattle.items.specs.Digits.{decimal}
use Rattle.items.specs.Items.{letter}
use Rattle.line.specs.Line.{Line, line_of, refusal_line, outcome_lines, concatenated}
use Rattle.outcome.specs.Outcome.{Outcome}
use Rattle.work.specs.Work.{worked}

-- rule 9.7: it reads files of the new kind
abbrev pub sheet_kind : FileKind
sheet_kind = New

-- rule 12.1: it works them with the bolts built in
abbrev pub worked_built_in : Joint → Outcome
worked_built_in joint = worked built_in joint

-- what the sheet prints of a joint that was read: rows are shown without the mark of a second face
abbrev pub joint_lines : (number : ℕ) → Joint → List Line
joint_lines number joint = outcome_lines number (first_rows joint.face.rows) joint.other.rows (worked_built_in joint)

-- rules 12.3 and 12.4: the lines of a joint that was read with those of the bytes left, or the line of one that wasn't, which is the last
abbrev pub lines_then : (others : List ℕ → List Line) (number : ℕ) → Parse Joint → List Line
lines_then others number (got joint left) = joint_lines number joint ++ others left
lines_then others number (refused r) = refusal_line number (r ∷ []) ∷ []

-- The lines of joint files end to end, the first of them joint `number`; of at most so many joints. No input has none.
unfoldable pub lines_within : (most number : ℕ) (bytes : List ℕ) → List Line
lines_within zero number bytes = []
lines_within (suc most) number [] = []
lines_within (suc most) number (byte ∷ bytes) = lines_then (lines_within most (number + 1)) number (read_joint sheet_kind (byte ∷ bytes))

-- All of them: no file is empty, so there are no more joints than bytes.
abbrev pub lines_of : (number : ℕ) (bytes : List ℕ) → List Line
lines_of number bytes = lines_within (length bytes) number bytes

-- rule 12.5: `R 4`
abbrev pub over_long : Line
over_long = line_of (letter 82) (decimal 4 ∷ [])

-- rule 12.5: no more bytes are taken
abbrev pub most_input : ℕ
most_input = 65536

-- rules 12.1 and 12.5: `R 4` alone where the input is longer than that; else joints count from 1
unfoldable pub sheet_lines : (bytes : List ℕ) → List Line
sheet_lines bytes = cond (ltb most_input (length bytes)) (over_long ∷ []) (lines_of 1 bytes)

-- The sheet's bytes.
abbrev pub sheet_of : (bytes : List ℕ) → List ℕ
sheet_of bytes = concatenated (sheet_lines bytes)
