-- Reading a joint of either kind leaves an end of the bytes, whatever they are, and takes at least a byte: the part of the first face
-- leaves an end of them, and that of the second an end of that. Assumes nothing.
use Prim.Native.Nat.{ℕ, ◌-◌, ◌<◌}
use mathlib.Core.Path.{◌≡◌}
use mathlib.Core.List.{List, ◌++◌}
use mathlib.Core.Bool.{Bool, true, false, cond}
use native.Mathlib.Omega.{arith}
use lib.ListN.{length}
use Rattle.arithmetic.specs.Range.{within}
use Rattle.joint.specs.Ranges.{row_counts}
use Rattle.joint.specs.Faces.{two_faced}
use Rattle.joint.specs.declared.Joint.{Joint}
use Rattle.numbers.specs.Parse.{got, refused}
use Rattle.numbers.specs.Number.{read_number}
use Rattle.numbers.specs.Run.{read_numbers}
use Rattle.numbers.proofs.Parsing.{then_got}
use Rattle.numbers.proofs.Ends.{EndOf, LeavesEnd, end_whole, end_cond, end_then, number_leaves_end, numbers_leave_end, number_shorter}
use Rattle.fields.specs.Fields.{field, own_count}
use Rattle.jointfile.specs.File.{Part, lacking, other_field_count, rows_by, read_others, read_part, read_second, read_joint}
use Rattle.jointfile.specs.declared.FileKind.{FileKind}

-- what follows the row count of a part, or refusal 3
after_count : (first : Bool) (others count : ℕ) (rest : List ℕ)
    → LeavesEnd rest (cond (within row_counts (rows_by first count)) (read_others others count (rows_by first count) rest) (refused 3))
unfolding read_others
after_count first others count rest =
    end_cond rest (within row_counts (rows_by first count)) _ _
    (end_then rest (read_numbers others rest) _ (numbers_leave_end others rest)
    (λ numbers more. end_then more (read_numbers (rows_by first count) more) _ (numbers_leave_end (rows_by first count) more)
    (λ levers end. end_whole end)))
    tt

part_leaves_end : (first : Bool) (others : ℕ) (bytes : List ℕ) → LeavesEnd bytes (read_part first others bytes)
unfolding read_part
part_leaves_end first others bytes = end_then bytes (read_number bytes) _ (number_leaves_end bytes) (after_count first others)

part_shorter : (first : Bool) (others : ℕ) (bytes : List ℕ) (part : Part) (left : List ℕ) → read_part first others bytes ≡ got part left
    → length left < length bytes
unfolding read_part
part_shorter first others bytes part left e =
    let (count, rest, number, follows) =
    then_got (read_number bytes)
    (λ count rest. cond (within row_counts (rows_by first count)) (read_others others count (rows_by first count) rest) (refused 3))
    part left e in
    let end : EndOf rest left = rw follows at (after_count first others count rest) in
    omega (arith, end.short, number_shorter bytes count rest number)

second_leaves_end : (fields levers bytes : List ℕ) → LeavesEnd bytes (read_second fields levers bytes)
unfolding read_second
second_leaves_end fields levers bytes =
    end_cond bytes (two_faced (field 1 fields)) _ _
    (end_then bytes (read_part false (own_count - 1) bytes) _ (part_leaves_end false (own_count - 1) bytes) (λ second end. end_whole end))
    (end_whole bytes)

joint_leaves_end : (kind : FileKind) (bytes : List ℕ) → LeavesEnd bytes (read_joint kind bytes)
unfolding read_joint
joint_leaves_end kind bytes =
    end_then bytes (read_part true (other_field_count kind) bytes) _ (part_leaves_end true (other_field_count kind) bytes)
    (λ part rest. second_leaves_end (part.fields ++ lacking kind) part.levers rest)

module _ (kind : FileKind) (bytes : List ℕ) (joint : Joint) (left : List ℕ) (e : read_joint kind bytes ≡ got joint left) where
  pub joint_end : EndOf bytes left
  joint_end = rw e at (joint_leaves_end kind bytes)

  pub joint_shorter : length left < length bytes
  unfolding read_joint
  joint_shorter =
      let (part, rest, first, second) =
      then_got (read_part true (other_field_count kind) bytes) (λ part rest. read_second (part.fields ++ lacking kind) part.levers rest)
      joint left e in
      let end : EndOf rest left = rw second at (second_leaves_end (part.fields ++ lacking kind) part.levers rest) in
      omega (arith, end.short, part_shorter true (other_field_count kind) bytes part rest first)
