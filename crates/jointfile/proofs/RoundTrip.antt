-- The round trip of a joint file of either kind, of one face or of two. A joint's file reads back to the same joint, with anything after
-- it, and leaves exactly that; and bytes that were read are the file of the joint. Part by part, and then field by field. Of the old kind
-- it is a law about files alone, since none is written. Assumes nothing.
use Prim.Native.Nat.{ℕ, zero, suc, ◌-◌, ◌^◌, ◌<◌}
use mathlib.Core.Path.{◌≡◌, refl, sym, ap, ◌∙◌, subst₂}
use mathlib.Core.List.{List, [], ◌∷◌, ◌++◌, append_assoc}
use mathlib.Core.Bool.{Bool, true, false, cond}
use native.Mathlib.Omega.{arith}
use lib.Dec.{leb}
use lib.ListN.{length, get_or, take, drop, length-append, take-append-drop}
use lib.Seq.{take_at, drop_at}
use Rattle.arithmetic.specs.Checks.{first_failing}
use Rattle.arithmetic.specs.Range.{within}
use Rattle.joint.specs.Ranges.{row_counts}
use Rattle.joint.specs.Faces.{two_faced, first_rows, first_face}
use Rattle.joint.specs.declared.Joint.{Joint}
use Rattle.numbers.specs.Run.{all_zero}
use Rattle.numbers.specs.Parse.{got}
use Rattle.numbers.specs.Number.{Bytes}
use Rattle.numbers.proofs.Parsing.{then_got}
use Rattle.numbers.proofs.RunCodec.{bytes_left}
use Rattle.fields.specs.Fields.{field, own_count, own_of, second_face_of, joint_of, fields_of}
use Rattle.fields.proofs.Order.{fields_face, own_face, joint_fields}
use Rattle.jointfile.specs.File.{untold_end_distance, lacking, stored_field_count, other_field_count, no_part}
use Rattle.jointfile.specs.File.{read_part, read_second, read_joint}
use Rattle.jointfile.specs.Write.{first_fields, second_fields, part_of, first_part, second_part, file, rows_check, spare_check, writing}
use Rattle.jointfile.specs.Answers.{PartHeld, Held, Writable, OtherTold, as_told, ToldBy}
use Rattle.jointfile.specs.declared.FileKind.{FileKind}
use Rattle.jointfile.specs.declared.FileKind.TheVariants.{Old, New}
use Rattle.jointfile.proofs.Answers.{stored_count}
use Rattle.jointfile.proofs.Faces.{first_passes, second_passes, both_pass, first_rows_right, second_rows_right}
use Rattle.jointfile.proofs.Parts.{take_small, append_small, zeros_small, PartRight, reads_part, TookPart, took_part}

-- ---- what is written reads back

-- the numbers of a joint, and what stands first among them
module _ (joint : Joint) where
  first_count : field 1 (first_fields joint) ≡ joint.face.rows
  unfolding fields_of
  first_count = refl

  second_count : field 1 (second_fields joint) ≡ joint.other.rows
  unfolding fields_of own_of
  second_count = refl

  second_long : length (second_fields joint) ≡ own_count
  unfolding fields_of own_of
  second_long = refl

  module _ (kind : FileKind) where
    stored_first : field 1 (take (stored_field_count kind) (first_fields joint)) ≡ joint.face.rows
    unfolding fields_of
    stored_first = elim kind as (λ k. field 1 (take (stored_field_count k) (first_fields joint)) ≡ joint.face.rows) [ Old ↦ refl | New ↦ refl ]

    stored_long : length (take (stored_field_count kind) (first_fields joint)) ≡ suc (other_field_count kind)
    unfolding fields_of
    stored_long = elim kind as (λ k. length (take (stored_field_count k) (first_fields joint)) ≡ suc (other_field_count k)) [ Old ↦ refl | New ↦ refl ]

-- the parts of a joint that the program can hold and `write` takes are right
module _ (joint : Joint) (held : Held joint) (writable : Writable joint) where
  first_right : (kind : FileKind) → PartRight true (take (stored_field_count kind) (first_fields joint)) joint.face.levers
  unfolding first_face
  first_right kind =
      let first = held.first in
      record {
        held =
            record {
              eight = first.eight;
              fields = take_small (stored_field_count kind) (first_fields joint) first.fields;
              levers = first.levers;
            };
        rows = rw (stored_first joint kind) (first_rows_right joint writable.rows);
        spare = rw (stored_first joint kind) (first_passes (λ face. all_zero (drop face.rows face.levers)) joint writable.spare);
      }

  second_right : two_faced joint.face.rows ≡ true → PartRight false (second_fields joint) joint.other.levers
  second_right two =
      record {
        held = held.second;
        rows = rw (second_count joint) (second_rows_right joint writable.rows two);
        spare = rw (second_count joint) (second_passes (λ face. all_zero (drop face.rows face.levers)) joint writable.spare two);
      }

-- the joint that a file tells, with a second face and without
module _ (joint : Joint) where
  told_both : two_faced joint.face.rows ≡ true → joint ≡ as_told joint
  unfolding as_told
  told_both two = rw two

  told_first : two_faced joint.face.rows ≡ false
      → joint_of (first_fields joint) joint.face.levers no_part.fields no_part.levers ≡ as_told joint
  unfolding as_told joint_of
  told_first one =
      let is = joint_fields joint in
      rw one (λ i. record {
        column = (is i).column;
        bolts = (is i).bolts;
        face = (is i).face;
        other = second_face_of no_part.fields no_part.levers;
      })

  -- a joint whose second face is all 0 where it has none is the one that is told
  pub told_whole : OtherTold joint → as_told joint ≡ joint
  unfolding as_told
  told_whole alone = go (two_faced joint.face.rows) refl
    where
      go : (t : Bool) → two_faced joint.face.rows ≡ t
          → record {
            column = joint.column;
            bolts = joint.bolts;
            face = joint.face;
            other = cond t joint.other (second_face_of no_part.fields no_part.levers);
          } ≡ joint
      go true two = refl
      go false one = λ i. record { column = joint.column; bolts = joint.bolts; face = joint.face; other = sym (alone one) i }

module _ (kind : FileKind) (joint : Joint) (held : Held joint) (writable : Writable joint)
    (lacks : drop (stored_field_count kind) (first_fields joint) ≡ lacking kind) (left : List ℕ) where
  abbrev stored-fields : List ℕ
  stored-fields = take (stored_field_count kind) (first_fields joint)

  whole : stored-fields ++ lacking kind ≡ first_fields joint
  whole =
      ap (λ (xs : List ℕ). stored-fields ++ xs) (sym lacks)
      ∙ take-append-drop (stored_field_count kind) (first_fields joint)

  -- the first part reads back
  reads_first : (after : List ℕ)
      → read_joint kind (first_part kind joint ++ after) ≡ read_second (first_fields joint) joint.face.levers after
  unfolding read_joint
  reads_first after =
      let part =
      reads_part true (other_field_count kind) stored-fields joint.face.levers after (stored_long joint kind)
      (first_right joint held writable kind) in
      rw (rw (stored_first joint kind) at part, whole)

  -- and the second, if there is one
  reads_second : (mark : Bool) → two_faced joint.face.rows ≡ mark
      → read_second (first_fields joint) joint.face.levers (cond mark (second_part joint) [] ++ left) ≡ got (as_told joint) left
  unfolding read_second
  reads_second true two =
      let part =
      reads_part false (own_count - 1) (second_fields joint) joint.other.levers left (second_long joint)
      (second_right joint held writable two) in
      rw (first_count joint, two, rw (second_count joint) at part) (ap (λ (j : Joint). got j left) (joint_fields joint ∙ told_both joint two))
  reads_second false one =
      rw (first_count joint, one) (ap (λ (j : Joint). got j left) (told_first joint one))

-- Every joint that the program can hold, that `write` refuses by neither 3 nor 6, and whose fields that the file lacks are as reading
-- gives them: the file, with anything after it, reads back to the joint that it tells, and leaves exactly what came after.
pub reads_back : (kind : FileKind) (joint : Joint) → Held joint → Writable joint
    → drop (stored_field_count kind) (first_fields joint) ≡ lacking kind → (left : List ℕ)
    → read_joint kind (file kind joint ++ left) ≡ got (as_told joint) left
unfolding file
reads_back kind joint held writable lacks left =
    let two = two_faced joint.face.rows in
    rw append_assoc
    (reads_first kind joint held writable lacks left (cond two (second_part joint) [] ++ left)
    ∙ reads_second kind joint held writable lacks left two refl)

-- Of the old kind: a joint with the z that its files don't tell, 15000, is read from its new file less z.
pub reads_old : (joint : Joint) → Held joint → Writable joint → joint.column.end_distance ≡ untold_end_distance → (left : List ℕ)
    → read_joint Old (file Old joint ++ left) ≡ got (as_told joint) left
unfolding fields_of
reads_old joint held writable far = reads_back Old joint held writable (ap (λ (z : ℕ). z ∷ []) far)

-- A joint that is refused for neither 3 nor 6, whatever the buffer.
pub writable : (joint : Joint) (buffer : List ℕ) → ((writing joint buffer).refusal ≡ 3 → ⊥) → ((writing joint buffer).refusal ≡ 6 → ⊥)
    → Writable joint
unfolding writing first_failing
writable joint buffer not-3 not-6 = go (rows_check joint).1 refl (spare_check joint).1 refl
  where
    go : (t : Bool) → (rows_check joint).1 ≡ t → (u : Bool) → (spare_check joint).1 ≡ u → Writable joint
    go true rows true spare = record { rows = rows; spare = spare }
    go true rows false spare = absurd (not-6 (rw (rows, spare)))
    go false rows u spare = absurd (not-3 (rw rows))

-- What the buffer holds after `write` reads back to the joint that it tells, and leaves what was in the buffer past the file.
pub written_back : (joint : Joint) (buffer : List ℕ) → Held joint → (writing joint buffer).refusal ≡ 0
    → read_joint New (writing joint buffer).buffer ≡ got (as_told joint) (drop (writing joint buffer).size buffer)
unfolding writing first_failing fields_of
written_back joint buffer held none = go (leb (length (file New joint)) (length buffer)) refl
  where
    taken : Writable joint
    taken = writable joint buffer (λ e. omega arith) (λ e. omega arith)

    go : (t : Bool) → leb (length (file New joint)) (length buffer) ≡ t
        → read_joint New (writing joint buffer).buffer ≡ got (as_told joint) (drop (writing joint buffer).size buffer)
    go true room =
        rw (taken.rows, taken.spare, room)
        (reads_back New joint held taken refl (drop (length (file New joint)) buffer))
    go false short =
        let five : (writing joint buffer).refusal ≡ 5 = rw (taken.rows, taken.spare, short) in
        absurd (omega arith)

-- ---- what was read, written again

-- What a joint that was read is: the bytes that were read are its file, which tells all of it, and it is one that the program can hold
-- and `write` takes.
pub record Took (kind : FileKind) (bytes : List ℕ) (joint : Joint) (left : List ℕ) : Type 0 where
  pub form : file kind joint ++ left ≡ bytes
  pub told : ToldBy kind joint
  pub held : Held joint
  pub writable : Writable joint

lacking_small : (kind : FileKind) (k : ℕ) → get_or (lacking kind) k 0 < 2 ^ 32
lacking_small Old zero = omega arith
lacking_small Old (suc k) = omega arith
lacking_small New k = omega arith

-- What follows the first part: the second, where there is one, and else nothing that is read.
record TookSecond (two : Bool) (bytes own others left : List ℕ) : Type 0 where
  form : cond two (part_of own (field 1 own) others) [] ++ left ≡ bytes
  long : length own ≡ own_count
  held : PartHeld own others
  right : two ≡ true → PartRight false own others
  none : two ≡ false → second_face_of own others ≡ second_face_of no_part.fields no_part.levers

took_both : {bytes own others left : List ℕ} → TookPart false (own_count - 1) bytes own others left → TookSecond true bytes own others left
took_both took =
    record {
      form = took.form;
      long = took.long;
      held = took.right.held;
      right = λ two. took.right;
      none = λ one. let z : ◌≡◌ {A = ℕ} 0 1 = cc in absurd (omega arith);
    }

took_one : (left : List ℕ) → TookSecond false left no_part.fields no_part.levers left
took_one left =
    record {
      form = refl;
      long = refl;
      held = record { eight = refl; fields = zeros_small own_count; levers = zeros_small 8 };
      right = λ two. let z : ◌≡◌ {A = ℕ} 0 1 = cc in absurd (omega arith);
      none = λ one. refl;
    }

-- field 1 stands in the first part, whatever it lacks
field_1_of : (others : ℕ) (fields rest : List ℕ) → length fields ≡ suc others → field 1 (fields ++ rest) ≡ field 1 fields
field_1_of others [] rest long = absurd (omega arith)
field_1_of others (count ∷ numbers) rest long = refl

module _ (kind : FileKind) (fields levers own others bytes bytes₁ left : List ℕ)
    (first : TookPart true (other_field_count kind) bytes fields levers bytes₁)
    (second : TookSecond (two_faced (field 1 (fields ++ lacking kind))) bytes₁ own others left) where
  abbrev whole_fields : List ℕ
  whole_fields = fields ++ lacking kind

  abbrev joint-read : Joint
  joint-read = joint_of whole_fields levers own others

  in_file : length fields ≡ stored_field_count kind
  in_file = first.long ∙ elim kind as (λ k. suc (other_field_count k) ≡ stored_field_count k) [ Old ↦ refl | New ↦ refl ]

  same_count : field 1 whole_fields ≡ field 1 fields
  same_count = field_1_of (other_field_count kind) fields (lacking kind) first.long

  same_first : first_fields joint-read ≡ whole_fields
  unfolding joint_of
  same_first = fields_face whole_fields levers (rw length-append (omega (arith, in_file, (stored_count kind).low)))

  same_second : second_fields joint-read ≡ own
  unfolding joint_of
  same_second = own_face _ _ own others second.long

  same_stored : take (stored_field_count kind) (first_fields joint-read) ≡ fields
  same_stored = ap (take (stored_field_count kind)) same_first ∙ take_at fields (lacking kind) (stored_field_count kind) in_file

  same_file : file kind joint-read
      ≡ part_of fields (first_rows (field 1 fields)) levers ++ cond (two_faced (field 1 whole_fields)) (part_of own (field 1 own) others) []
  unfolding file joint_of
  same_file =
      λ i. part_of (same_stored i) (first_rows (same_count i)) levers
      ++ cond (two_faced (field 1 whole_fields)) (part_of (same_second i) (field 1 own) others) []

  took : Took kind bytes joint-read left
  unfolding joint_of first_face
  took =
      let right = first.right in
      let rows : within row_counts (first_rows (field 1 whole_fields)) ≡ true = rw same_count right.rows in
      let spare : all_zero (drop (first_rows (field 1 whole_fields)) levers) ≡ true = rw same_count right.spare in
      record {
        form = rw (same_file, append_assoc, second.form) first.form;
        told =
            record {
              lacks =
                  ap (drop (stored_field_count kind)) same_first ∙ drop_at fields (lacking kind) (stored_field_count kind) in_file;
              alone = second.none;
            };
        held =
            record {
              first =
                  record {
                    eight = right.held.eight;
                    fields = rw same_first (append_small fields (lacking kind) right.held.fields (lacking_small kind));
                    levers = right.held.levers;
                  };
              second = rw same_second second.held;
            };
        writable =
            record {
              rows = both_pass (λ face. within row_counts face.rows) joint-read rows (λ two. (second.right two).rows);
              spare =
                  both_pass (λ face. all_zero (drop face.rows face.levers)) joint-read spare (λ two. (second.right two).spare);
            };
      }

-- the first part was read, and then the second, if there is one
module _ (kind : FileKind) (fields levers bytes bytes₁ : List ℕ) (joint : Joint) (left : List ℕ) (all : Bytes bytes₁)
    (first : TookPart true (other_field_count kind) bytes fields levers bytes₁)
    (e : read_second (fields ++ lacking kind) levers bytes₁ ≡ got joint left) where
  took_second : (mark : Bool) → two_faced (field 1 (fields ++ lacking kind)) ≡ mark → Took kind bytes joint left
  unfolding read_second
  took_second true two =
      let (part, end, read, e₁) =
      then_got (read_part false (own_count - 1) bytes₁)
      (λ part rest. got (joint_of (fields ++ lacking kind) levers part.fields part.levers) rest) joint left (rw two at e) in
      let is : joint_of (fields ++ lacking kind) levers part.fields part.levers ≡ joint = cc in
      let ends : end ≡ left = cc in
      let second = took_both (took_part false (own_count - 1) bytes₁ part end all read) in
      subst₂ (λ (j : Joint) (rest : List ℕ). Took kind bytes j rest) is ends
      (took kind fields levers part.fields part.levers bytes bytes₁ end first (rw two second))
  took_second false one =
      let e₁ : got (joint_of (fields ++ lacking kind) levers no_part.fields no_part.levers) bytes₁ ≡ got joint left = rw one at e in
      let is : joint_of (fields ++ lacking kind) levers no_part.fields no_part.levers ≡ joint = cc in
      let ends : bytes₁ ≡ left = cc in
      subst₂ (λ (j : Joint) (rest : List ℕ). Took kind bytes j rest) is ends
      (took kind fields levers no_part.fields no_part.levers bytes bytes₁ bytes₁ first (rw one (took_one bytes₁)))

-- Bytes that were read: the joint's file is those bytes, up to what is left. So there is one file of a kind for each joint.
pub writes_again : (kind : FileKind) (bytes : List ℕ) (joint : Joint) (left : List ℕ) → Bytes bytes → read_joint kind bytes ≡ got joint left
    → Took kind bytes joint left
unfolding read_joint
writes_again kind bytes joint left all e =
    let (part, bytes₁, read, e₁) =
    then_got (read_part true (other_field_count kind) bytes) (λ part rest. read_second (part.fields ++ lacking kind) part.levers rest)
    joint left e in
    let first = took_part true (other_field_count kind) bytes part bytes₁ all read in
    let all₁ =
    bytes_left (part_of part.fields (first_rows (field 1 part.fields)) part.levers) bytes₁ bytes first.form all in
    took_second kind part.fields part.levers bytes bytes₁ joint left all₁ first e₁ _ refl
