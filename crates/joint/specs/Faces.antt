-- Rule 2.3: a beam on one face of the column or on both, by field 1. Assumes nothing.
use Rattle.std.specs.Prelude.{ℕ, ◌+◌, ◌-◌, Bool, true, cond, ◌&&◌}
use Rattle.arithmetic.specs.Range.{Range, within, ◌to◌}
use Rattle.joint.specs.Ranges.{row_counts}
use Rattle.joint.specs.declared.Face.{Face}
use Rattle.joint.specs.declared.Joint.{Joint}

-- field 1 of a joint with a second face: the rows of the first, raised by this
abbrev pub second_face_mark : ℕ
second_face_mark = 16

-- so 16 to 24
abbrev pub marked_counts : Range
marked_counts = (second_face_mark + row_counts.low) to (second_face_mark + row_counts.high)

-- whether field 1 says that there is a second face
unfoldable pub two_faced : (count : ℕ) → Bool
two_faced count = within marked_counts count

-- the rows of the first face by field 1: only 16 to 24 have the mark, and it comes off
unfoldable pub first_rows : (count : ℕ) → ℕ
first_rows count = cond (two_faced count) (count - second_face_mark) count

-- a face with another row count
abbrev pub with_rows : Face → (rows : ℕ) → Face
with_rows face rows = record {
  rows = rows;
  extended = face.extended;
  beam = face.beam;
  plate = face.plate;
  layout = face.layout;
  welds = face.welds;
  shear_rows = face.shear_rows;
  loads = face.loads;
  levers = face.levers;
}

-- the first face with its rows, not marked
unfoldable pub first_face : Face → Face
first_face face = with_rows face (first_rows face.rows)

-- a test of each face that a joint has: where it has one, nothing of a second is looked at
abbrev pub on_faces : (Face → Bool) → Joint → Bool
on_faces test joint = test (first_face joint.face) && cond (two_faced joint.face.rows) (test joint.other) true
