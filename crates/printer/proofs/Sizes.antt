-- How long a sheet can be: there is at most a line for each so many bytes and one for the rest, each of at most the longest line's bytes.
-- So an output of `most_sheet` bytes holds any sheet. Assumes nothing.
use Prim.Native.Nat.{ℕ, zero, suc, ◌+◌, ◌-◌, ◌*◌, ◌≤◌}
use mathlib.Core.Path.{◌≡◌, refl, ap}
use mathlib.Core.List.{List, [], ◌∷◌}
use mathlib.Core.Bool.{Bool, true, false, cond}
use native.Mathlib.Omega.{arith}
use borrow.Author.Tests.{ltb-false, le-leb}
use lib.Dec.{ltb}
use lib.ListN.{length, length-append}
use Rattle.joint.specs.Faces.{two_faced, first_rows}
use Rattle.joint.specs.declared.Joint.{Joint}
use Rattle.numbers.specs.Parse.{Parse, got, refused}
use Rattle.numbers.specs.Number.{Bytes}
use Rattle.jointfile.specs.File.{read_joint}
use Rattle.jointfile.specs.Write.{file}
use Rattle.numbers.proofs.RunCodec.{bytes_left}
use Rattle.jointfile.proofs.RoundTrip.{Took, writes_again}
use Rattle.jointfile.proofs.Sizes.{file_size, two_faced_size}
use Rattle.items.specs.Digits.{digits}
use Rattle.items.specs.Items.{spaced}
use Rattle.outcome.specs.Outcome.{PanelVerdict}
use Rattle.line.specs.Longest.{most_line}
use Rattle.line.specs.Line.{is_asked, concatenated}
use Rattle.line.proofs.Lines.{refusal_short, concatenated-append, outcome_few, outcome_short}
use Rattle.printer.specs.Sheet.{worked_built_in}
use Rattle.bolttable.specs.Area.{area_of}
use Rattle.bolttable.specs.Loading.{built_in}
use Rattle.work.proofs.Cases.{panel_alone}
use Rattle.printer.specs.Sheet.{sheet_kind, most_input, joint_lines, lines_then, lines_within, lines_of, over_long, sheet_lines}
use Rattle.printer.specs.Sheet.{sheet_of}
use Rattle.printer.specs.Answers.{whole, printing, least_per_line, most_printed, most_sheet}
use Rattle.buffers.specs.Put.{at_front}

-- a joint's lines take so many bytes each: it has two only if it has two faces
joint_lines_lem : (number : ℕ) (bytes : List ℕ) (joint : Joint) (left : List ℕ) → Took sheet_kind bytes joint left
    → length left + least_per_line * length (joint_lines number joint) ≤ length bytes
joint_lines_lem number bytes joint left took = go (two_faced joint.face.rows) refl
  where
    few : length (joint_lines number joint) ≤ cond (is_asked (worked_built_in joint).panel) 2 1
    few = outcome_few number (first_rows joint.face.rows) joint.other.rows (worked_built_in joint)

    two : (t : Bool) → cond t 2 1 ≤ 2
    two true = omega arith
    two false = omega arith

    go : (t : Bool) → two_faced joint.face.rows ≡ t
        → length left + least_per_line * length (joint_lines number joint) ≤ length bytes
    go true both = omega (arith, few, two (is_asked (worked_built_in joint).panel), two_faced_size bytes joint left took both)
    go false alone =
        let most : PanelVerdict → ℕ = λ panel. cond (is_asked panel) 2 1 in
        let one = ap most (panel_alone (area_of built_in joint.bolts.diameter) joint alone) in
        omega (arith, few, one, file_size bytes joint left took)

lines_few : (most number : ℕ) (bytes : List ℕ) → Bytes bytes
    → least_per_line * length (lines_within most number bytes) ≤ length bytes + (least_per_line - 1)
unfolding lines_within
lines_few zero number bytes all = omega arith
lines_few (suc most) number [] all = omega arith
lines_few (suc most) number (byte ∷ bytes) all = go (lines_few most (number + 1)) (read_joint sheet_kind (byte ∷ bytes)) refl
  where
    go : ((left : List ℕ) → Bytes left → least_per_line * length (lines_within most (number + 1) left) ≤ length left + (least_per_line - 1))
        → (parse : Parse Joint) → read_joint sheet_kind (byte ∷ bytes) ≡ parse
        → least_per_line * length (lines_then (lines_within most (number + 1)) number parse) ≤ length (byte ∷ bytes) + (least_per_line - 1)
    go few (got joint left) e =
        let took = writes_again sheet_kind (byte ∷ bytes) joint left all e in
        rw (length-append (joint_lines number joint) (lines_within most (number + 1) left))
        (omega (
          arith,
          few left (bytes_left (file sheet_kind joint) left (byte ∷ bytes) took.form all),
          joint_lines_lem number (byte ∷ bytes) joint left took,
        ))
    go few (refused r) e = omega arith

lines_short : (most number : ℕ) (bytes : List ℕ)
    → length (concatenated (lines_within most number bytes)) ≤ most_line * length (lines_within most number bytes)
unfolding lines_within concatenated
lines_short zero number bytes = omega arith
lines_short (suc most) number [] = omega arith
lines_short (suc most) number (byte ∷ bytes) = go (lines_short most (number + 1)) (read_joint sheet_kind (byte ∷ bytes))
  where
    go : ((left : List ℕ)
        → length (concatenated (lines_within most (number + 1) left)) ≤ most_line * length (lines_within most (number + 1) left))
        → (parse : Parse Joint)
        → length (concatenated (lines_then (lines_within most (number + 1)) number parse))
        ≤ most_line * length (lines_then (lines_within most (number + 1)) number parse)
    go short (got joint left) =
        let others = lines_within most (number + 1) left in
        let lines = joint_lines number joint in
        rw (concatenated-append lines others, length-append (concatenated lines), length-append lines others)
        (omega (arith, short left, outcome_short number (first_rows joint.face.rows) joint.other.rows (worked_built_in joint)))
    go short (refused r) = rw length-append (omega (arith, refusal_short number (r ∷ []) (omega arith)))

-- the lines of so many bytes are no longer than `most_printed` says
pub lines_size : (bytes : List ℕ) → Bytes bytes → length (concatenated (lines_of 1 bytes)) ≤ most_printed (length bytes)
lines_size bytes all = omega (arith, lines_short (length bytes) 1 bytes, lines_few (length bytes) 1 bytes all)

over_long_size : length (concatenated (over_long ∷ [])) ≡ 4
unfolding concatenated spaced digits
over_long_size = refl

-- So many bytes hold any sheet.
pub sheet_size : (bytes : List ℕ) → Bytes bytes → length (sheet_of bytes) ≤ most_sheet
unfolding sheet_lines
sheet_size bytes all = go (ltb most_input (length bytes)) refl
  where
    go : (t : Bool) → ltb most_input (length bytes) ≡ t → length (concatenated (cond t (over_long ∷ []) (lines_of 1 bytes))) ≤ most_sheet
    go true e = omega (arith, over_long_size)
    go false e = omega (arith, lines_size bytes all, ltb-false most_input (length bytes) e)

-- So a buffer of that many bytes never runs out: the whole sheet stands at its front.
pub sheet_whole : (bytes buffer : List ℕ) → Bytes bytes → most_sheet ≤ length buffer
    → printing (sheet_of bytes) buffer ≡ whole (length (sheet_of bytes)) (at_front (sheet_of bytes) buffer)
unfolding printing
sheet_whole bytes buffer all room =
    rw (le-leb (length (sheet_of bytes)) (length buffer) (omega (arith, sheet_size bytes all)))
