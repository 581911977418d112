-- What a caller of `read` leans on. The place that it answers lies in the bytes, and what follows it is what is left of them, since a
-- joint leaves an end of them; and the refusal is 0 just where a joint was read. Assumes nothing.
use Prim.Native.Nat.{ℕ, ◌-◌, ◌≤◌}
use mathlib.Core.Path.{◌≡◌, refl, sym, ap, ◌∙◌}
use mathlib.Core.List.{List, ◌++◌}
use mathlib.Core.Bool.{Bool, true, false}
use native.Mathlib.Omega.{arith}
use lib.ListN.{length, take, drop, length-drop}
use lib.Seq.{take_all, drop-length}
use Rattle.arithmetic.specs.Range.{within}
use Rattle.joint.specs.Ranges.{row_counts}
use Rattle.joint.specs.Faces.{two_faced}
use Rattle.joint.specs.declared.Joint.{Joint}
use Rattle.numbers.specs.Run.{read_numbers}
use Rattle.numbers.specs.Parse.{Parse, got, refused}
use Rattle.numbers.specs.Number.{read_number}
use Rattle.numbers.proofs.Refusals.{Numbered, numbered_cond, numbered_then, numbered_number, numbered_numbers}
use Rattle.fields.specs.Fields.{field, own_count}
use Rattle.jointfile.specs.File.{lacking, other_field_count, rows_by, read_others, read_part, read_second, read_joint}
use Rattle.jointfile.specs.File.{Reading, answer, reading, left_of, rest_of}
use Rattle.jointfile.specs.declared.FileKind.{FileKind}
use Rattle.jointfile.proofs.Ends.{joint_end}

pub next_within : (kind : FileKind) (bytes : List ℕ) → (reading kind bytes).next ≤ length bytes
next_within kind bytes = go (read_joint kind bytes)
  where
    go : (parse : Parse Joint) → (answer (length bytes) parse).next ≤ length bytes
    go (got joint rest) = omega arith
    go (refused r) = omega arith

pub next_left : (kind : FileKind) (bytes : List ℕ) → drop (reading kind bytes).next bytes ≡ rest_of kind bytes
next_left kind bytes = go (read_joint kind bytes) refl
  where
    go : (parse : Parse Joint) → read_joint kind bytes ≡ parse → drop (answer (length bytes) parse).next bytes ≡ left_of parse
    go (got joint rest) e = sym (joint_end kind bytes joint rest e).is
    go (refused r) e = drop-length bytes

-- what follows the place of a joint that was read
pub read_left : (kind : FileKind) (bytes : List ℕ) {joint : Joint} {next : ℕ}
    → record { refusal = 0; joint = joint; next = next } ≡ reading kind bytes
    → take (length bytes - next) (drop next bytes) ≡ rest_of kind bytes
read_left kind bytes {joint} {next} is =
    let place : next ≡ (reading kind bytes).next = ap (λ (r : Reading). r.next) is in
    take_all (length bytes - next) (drop next bytes) (omega (arith, length-drop next bytes)) ∙ rw place (next_left kind bytes)

-- ---- no refusal has the number 0

numbered_part : (first : Bool) (others : ℕ) (bytes : List ℕ) → Numbered (read_part first others bytes)
unfolding read_part read_others
numbered_part first others bytes =
    numbered_then (read_number bytes) _ (numbered_number 0 bytes)
    (λ count rest. numbered_cond (within row_counts (rows_by first count)) _ _
    (numbered_then (read_numbers others rest) _ (numbered_numbers others rest)
    (λ numbers more. numbered_then (read_numbers (rows_by first count) more) _ (numbered_numbers (rows_by first count) more)
    (λ levers end. tt)))
    (omega arith))

numbered_joint : (kind : FileKind) (bytes : List ℕ) → Numbered (read_joint kind bytes)
unfolding read_joint read_second
numbered_joint kind bytes =
    numbered_then (read_part true (other_field_count kind) bytes) _ (numbered_part true (other_field_count kind) bytes)
    (λ part rest. numbered_cond (two_faced (field 1 (part.fields ++ lacking kind))) _ _
    (numbered_then (read_part false (own_count - 1) rest) _ (numbered_part false (own_count - 1) rest) (λ second end. tt))
    tt)

-- Refusal 0: a joint was read, and it is the one that is answered.
pub read_taken : (kind : FileKind) (bytes : List ℕ) → (reading kind bytes).refusal ≡ 0
    → read_joint kind bytes ≡ got (reading kind bytes).joint (rest_of kind bytes)
read_taken kind bytes = go (read_joint kind bytes) (numbered_joint kind bytes)
  where
    go : (parse : Parse Joint) → Numbered parse → (answer (length bytes) parse).refusal ≡ 0
        → parse ≡ got (answer (length bytes) parse).joint (left_of parse)
    go (got joint rest) numbered e = refl
    go (refused r) numbered e = absurd (omega arith)

-- Any other: that is why none was.
pub read_refused : (kind : FileKind) (bytes : List ℕ) → ((reading kind bytes).refusal ≡ 0 → ⊥)
    → read_joint kind bytes ≡ refused (reading kind bytes).refusal
read_refused kind bytes = go (read_joint kind bytes)
  where
    go : (parse : Parse Joint) → ((answer (length bytes) parse).refusal ≡ 0 → ⊥)
        → parse ≡ refused (answer (length bytes) parse).refusal
    go (got joint rest) some = absurd (some refl)
    go (refused r) some = refl
