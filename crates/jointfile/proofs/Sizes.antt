-- How many bytes a joint takes at least: one for each number, of which a part has its fields. Assumes nothing.
use Prim.Native.Nat.{ℕ, ◌+◌, ◌≤◌}
use mathlib.Core.Path.{◌≡◌}
use mathlib.Core.List.{List, [], ◌++◌}
use mathlib.Core.Bool.{true, cond}
use native.Mathlib.Omega.{arith}
use lib.ListN.{length, take, length-append}
use Rattle.joint.specs.Faces.{two_faced, first_rows}
use Rattle.joint.specs.declared.Joint.{Joint}
use Rattle.numbers.specs.Run.{stored_all}
use Rattle.numbers.proofs.Sizes.{stored_all_long}
use Rattle.fields.specs.Fields.{field_count, own_count, own_of, fields_of}
use Rattle.jointfile.specs.Write.{first_fields, second_fields, part_of, first_part, second_part, file}
use Rattle.jointfile.specs.Answers.{least_two_faced}
use Rattle.jointfile.specs.declared.FileKind.TheVariants.{New}
use Rattle.jointfile.proofs.RoundTrip.{Took}

part_size : (fields levers : List ℕ) (rows : ℕ) → length fields ≤ length (part_of fields rows levers)
unfolding part_of
part_size fields levers rows =
    omega (arith, length-append (stored_all fields) (stored_all (take rows levers)), stored_all_long fields)

module _ (joint : Joint) where
  first_size : field_count ≤ length (first_part New joint)
  unfolding fields_of
  first_size = part_size (first_fields joint) joint.face.levers (first_rows joint.face.rows)

  second_size : own_count ≤ length (second_part joint)
  unfolding fields_of own_of
  second_size = part_size (second_fields joint) joint.other.levers joint.other.rows

-- so many bytes of a joint and those that are left after it were there to read
module _ (bytes : List ℕ) (joint : Joint) (left : List ℕ) (took : Took New bytes joint left) where
  pub file_size : length left + field_count ≤ length bytes
  unfolding file
  file_size =
      let second = cond (two_faced joint.face.rows) (second_part joint) [] in
      rw (← took.form)
      (omega (arith, first_size joint, length-append (first_part New joint ++ second) left, length-append (first_part New joint) second))

  -- with a second face
  pub two_faced_size : two_faced joint.face.rows ≡ true → length left + least_two_faced ≤ length bytes
  unfolding file
  two_faced_size two =
      rw (← took.form, two)
      (omega (
        arith,
        first_size joint,
        second_size joint,
        length-append (first_part New joint ++ second_part joint) left,
        length-append (first_part New joint) (second_part joint),
      ))
