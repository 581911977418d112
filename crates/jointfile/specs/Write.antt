-- Writing a joint file (rules 9.2 and 9.6 to 9.8): the file of a joint, what is refused in which order, and what the buffer holds
-- afterwards. Assumes nothing.
use Rattle.std.specs.Prelude.{ℕ, List, [], ◌∷◌, ◌++◌, cond, leb, length, take, drop}
use Rattle.arithmetic.specs.Checks.{Check, first_failing}
use Rattle.arithmetic.specs.Range.{within}
use Rattle.joint.specs.Ranges.{row_counts}
use Rattle.joint.specs.Faces.{two_faced, first_rows, on_faces}
use Rattle.joint.specs.declared.Joint.{Joint}
use Rattle.buffers.specs.Put.{at_front}
use Rattle.numbers.specs.Run.{stored_all, all_zero}
use Rattle.fields.specs.Fields.{fields_of, own_of}
use Rattle.jointfile.specs.File.{stored_field_count}
use Rattle.jointfile.specs.declared.FileKind.{FileKind}
use Rattle.jointfile.specs.declared.FileKind.TheVariants.{New}

-- the numbers of a joint before the levers: those of the first face with the column and the bolts, and those that the second has of its own
abbrev pub first_fields : Joint → List ℕ
first_fields joint = fields_of joint.column joint.bolts joint.face

abbrev pub second_fields : Joint → List ℕ
second_fields joint = own_of (fields_of joint.column joint.bolts joint.other)

-- the bytes of a part: its fields, and a lever for each row
unfoldable pub part_of : (fields : List ℕ) (rows : ℕ) (levers : List ℕ) → List ℕ
part_of fields rows levers = stored_all fields ++ stored_all (take rows levers)

-- the first face's; the old kind's is the new one less what it lacks, z
abbrev pub first_part : FileKind → Joint → List ℕ
first_part kind joint =
    part_of (take (stored_field_count kind) (first_fields joint)) (first_rows joint.face.rows) joint.face.levers

-- the second face's
abbrev pub second_part : Joint → List ℕ
second_part joint = part_of (second_fields joint) joint.other.rows joint.other.levers

-- rules 9.2 and 9.8: the file of a joint
unfoldable pub file : FileKind → Joint → List ℕ
file kind joint = first_part kind joint ++ cond (two_faced joint.face.rows) (second_part joint) []

-- What writing gives: the refusal's number or 0, the file's length or 0, and the buffer at exit.
pub record Writing : Type 0 where
  pub refusal : ℕ
  pub size : ℕ
  pub buffer : List ℕ

-- a refusal leaves the buffer as it was
abbrev pub turned_down : List ℕ → ℕ → Writing
turned_down buffer r = record { refusal = r; size = 0; buffer = buffer }

-- on success the file stands at the buffer's front, and past it the buffer is as it was
abbrev pub wrote : List ℕ → List ℕ → Writing
wrote buffer bytes = record { refusal = 0; size = length bytes; buffer = at_front bytes buffer }

-- 3: a face's row count isn't 0 to 8; 6: a spare lever isn't 0; 5: the buffer is shorter than the file
abbrev pub rows_check : Joint → Check
rows_check joint = (3, on_faces (λ face. within row_counts face.rows) joint)

abbrev pub spare_check : Joint → Check
spare_check joint = (6, on_faces (λ face. all_zero (drop face.rows face.levers)) joint)

abbrev pub room_check : (bytes buffer : List ℕ) → Check
room_check bytes buffer = (5, leb (length bytes) (length buffer))

-- what comes of writing some bytes where some of these are tried first
abbrev pub tried : (bytes buffer : List ℕ) → List Check → Writing
tried bytes buffer checks = first_failing (wrote buffer bytes) (turned_down buffer) checks

-- rule 9.6: they are tried in this order, each on both faces before the next, and the file is of the new kind
unfoldable pub writing : Joint → List ℕ → Writing
writing joint buffer =
    let bytes = file New joint in
    tried bytes buffer (rows_check joint ∷ spare_check joint ∷ room_check bytes buffer ∷ [])
