-- Reading a joint file of either kind (rules 9.3 to 9.5, 9.7 and 9.8): for each face a row count, the other fields and a lever for each
-- row, one number after another, with the refusal of the first trouble; and what is left after it. Assumes nothing.
use Rattle.std.specs.Prelude.{ℕ, ◌≡◌, ◌+◌, ◌-◌, List, [], ◌∷◌, ◌++◌, Bool, true, false, cond, length, replicate}
use Rattle.std.specs.Borrow.{Bor}
use Rattle.arithmetic.specs.Range.{within}
use Rattle.joint.specs.Ranges.{row_counts}
use Rattle.joint.specs.Faces.{two_faced, first_rows}
use Rattle.joint.specs.Places.{eight_places}
use Rattle.joint.specs.declared.Joint.{Joint}
use Rattle.numbers.specs.Parse.{Parse, got, refused, and_then}
use Rattle.numbers.specs.Number.{read_number}
use Rattle.numbers.specs.Run.{read_numbers}
use Rattle.fields.specs.Fields.{field_count, field, own_count, joint_of}
use Rattle.jointfile.specs.declared.FileKind.{FileKind}
use Rattle.jointfile.specs.declared.FileKind.TheVariants.{Old, New}

-- rule 9.7: z of a joint whose file doesn't tell it
abbrev pub untold_end_distance : ℕ
untold_end_distance = 15000

-- and what reading gives, of either kind, for the last fields before the levers where the file lacks them
abbrev pub lacking : FileKind → List ℕ
lacking Old = untold_end_distance ∷ []
lacking New = []

-- how many fields stand before a file's levers, and how many of them after field 1
abbrev pub stored_field_count : FileKind → ℕ
stored_field_count kind = field_count - length (lacking kind)

abbrev pub other_field_count : FileKind → ℕ
other_field_count kind = stored_field_count kind - 1

-- What a face's part of a file gives: its fields before the levers, the row count first, and its levers in eight places.
pub record Part : Type 0 where
  pub fields : List ℕ
  pub levers : List ℕ

-- the rows of a part by its row count: only that of a joint's first face may be marked (rule 2.3)
abbrev pub rows_by : (first : Bool) (count : ℕ) → ℕ
rows_by first count = cond first (first_rows count) count

-- what follows the row count of a part: so many other fields, and a lever for each row
unfoldable pub read_others : (others count rows : ℕ) → List ℕ → Parse Part
read_others others count rows bytes =
    and_then (read_numbers others bytes)
    (λ numbers left. and_then (read_numbers rows left)
    (λ levers rest. got (record { fields = count ∷ numbers; levers = eight_places levers }) rest))

-- A part: 3 is told when its row count is read, before anything of the next number is; no other range is looked at.
unfoldable pub read_part : (first : Bool) (others : ℕ) → List ℕ → Parse Part
read_part first others bytes =
    and_then (read_number bytes)
    (λ count left. cond (within row_counts (rows_by first count)) (read_others others count (rows_by first count) left) (refused 3))

-- the part of a second face that there isn't: every number is 0
abbrev pub no_part : Part
no_part = record { fields = replicate own_count 0; levers = replicate 8 0 }

-- rule 9.8: what follows the fields and the levers of the first face: where field 1 is marked, the part of the second, whose count isn't
unfoldable pub read_second : (fields levers bytes : List ℕ) → Parse Joint
read_second fields levers bytes =
    cond (two_faced (field 1 fields))
    (and_then (read_part false (own_count - 1) bytes) (λ second rest. got (joint_of fields levers second.fields second.levers) rest))
    (got (joint_of fields levers no_part.fields no_part.levers) bytes)

-- A joint: the part of its first face, with the column and the bolts, which may lack fields, and that of its second, if it has one.
unfoldable pub read_joint : FileKind → List ℕ → Parse Joint
read_joint kind bytes =
    and_then (read_part true (other_field_count kind) bytes) (λ part left. read_second (part.fields ++ lacking kind) part.levers left)

-- What stands in the joint's place in a refusal: every field is 0.
unfoldable pub no_joint : Joint
no_joint = joint_of (replicate field_count 0) (replicate 8 0) no_part.fields no_part.levers

-- What reading gives: the refusal's number or 0, the joint, and the place after it.
pub record Reading : Type 0 where
  pub refusal : ℕ
  pub joint : Joint
  pub next : ℕ

-- Of bytes that end at `end`: 0, the joint and the place after it; or the refusal, no joint and the end.
abbrev pub answer : ℕ → Parse Joint → Reading
answer end (got joint left) = record { refusal = 0; joint = joint; next = end - length left }
answer end (refused r) = record { refusal = r; joint = no_joint; next = end }

abbrev pub reading : FileKind → List ℕ → Reading
reading kind bytes = answer (length bytes) (read_joint kind bytes)

-- the bytes after the first joint, none where it can't be read
abbrev pub left_of : Parse Joint → List ℕ
left_of (got joint left) = left
left_of (refused r) = []

abbrev pub rest_of : FileKind → List ℕ → List ℕ
rest_of kind bytes = left_of (read_joint kind bytes)

-- rule 9.5: that lent bytes are a part of other ones, in their very place and at their end
abbrev pub EndOf : (part whole : Bor (List ℕ)) → Type 0
EndOf part whole = part.ref_ptr ≡ (whole.ref_ptr.0, whole.ref_ptr.1 + (length whole.now - length part.now))
