-- Reading a joint and writing one, case by case: what the definition gives for each place where the code stops.
-- Assumes nothing.
use Prim.Native.Nat.{ℕ, zero, suc, ◌-◌, ◌≤◌}
use mathlib.Core.Path.{◌≡◌, refl, sym, ◌∙◌}
use mathlib.Core.List.{List, [], ◌∷◌, ◌++◌, append-nil}
use mathlib.Core.Bool.{Bool, true, false}
use native.Mathlib.Omega.{arith}
use native.Mathlib.Nat.{sub-zero, zero-sub}
use borrow.Rule.Slice.PartMut.{put_mid}
use lib.ListN.{length, take, drop, set, replicate, length-drop}
use lib.Seq.{take-length, drop-length}
use Rattle.std.specs.Prelude.{Result, Ok, Err, IsErrAnd}
use Rattle.arithmetic.specs.Range.{Within, within, ◌to◌}
use Rattle.arithmetic.proofs.Checks.{holds, fails}
use Rattle.joint.specs.Ranges.{row_counts}
use Rattle.joint.specs.Faces.{two_faced}
use Rattle.joint.specs.Places.{eight_places}
use Rattle.joint.specs.declared.Joint.{Joint}
use Rattle.numbers.specs.Parse.{Parse, got, refused}
use Rattle.numbers.specs.Answers.{number_of, NumberRead, RunRead}
use Rattle.numbers.specs.declared.number.Number.{Number}
use Rattle.numbers.specs.declared.number.NumberRefusal.{NumberRefusal}
use Rattle.fields.specs.Fields.{field_count, field, joint_of}
use Rattle.jointfile.specs.File.{Part, untold_end_distance, lacking, stored_field_count, other_field_count, no_part, rows_by}
use Rattle.jointfile.specs.File.{read_others, read_part, read_second, read_joint, answer}
use Rattle.jointfile.specs.Write.{file, turned_down, rows_check, spare_check, writing}
use Rattle.jointfile.specs.Answers.{read_refusal, reading_meaning, part_meaning, OthersRead, PartRead, writing_if_room}
use Rattle.jointfile.specs.declared.Reading.{Reading as ReadJoint}
use Rattle.jointfile.specs.declared.FileKind.{FileKind}
use Rattle.jointfile.specs.declared.FileKind.TheVariants.{Old, New}
use Rattle.jointfile.specs.declared.ReadRefusal.{ReadRefusal}

-- ---- the levers in eight places

drop_replicate : (k n : ℕ) → drop k (replicate n (zero)) ≡ replicate (n - k) zero
drop_replicate zero n = rw sub-zero
drop_replicate (suc k) zero = rw zero-sub
drop_replicate (suc k) (suc n) =
    let less : suc n - suc k ≡ n - k = omega arith in
    rw less (drop_replicate k n)

levers_eight : (rows : ℕ) (levers : List ℕ) → length levers ≡ rows → levers ++ drop rows (replicate 8 0) ≡ eight_places levers
unfolding eight_places
levers_eight rows levers e = rw (e, drop_replicate rows 8)

-- ---- what follows a row count

module _ {bytes entry others : List ℕ} {from rows : ℕ} where
  pub others_stopped : (levers : List ℕ) (r : NumberRefusal) → RunRead bytes from entry others (Err r)
      → OthersRead bytes from rows entry others levers (Err r)
  unfolding read_others
  others_stopped levers r read = record { means = λ count. rw (← read.means); within = λ inside. omega arith }

  pub others_taken : (after : ℕ) → RunRead bytes from entry others (Ok after) → (lent levers : List ℕ) (last : Result ℕ NumberRefusal)
      → RunRead bytes after lent levers last → length lent ≡ rows → length levers ≡ rows
      → OthersRead bytes from rows entry others (levers ++ drop rows (replicate 8 0)) last
  unfolding read_others
  others_taken after read lent levers (Ok next) read' long same =
      record {
        means = λ count. rw (← read.means, ← rw long at read'.means, levers_eight rows levers same);
        within = λ inside. read'.within (read.within inside);
      }
  others_taken after read lent levers (Err r) read' long same =
      record { means = λ count. rw (← read.means, ← rw long at read'.means); within = λ inside. omega arith }

-- ---- a part

pub part_taken : {bytes : List ℕ} {count : Number} {rows : ℕ} {entry lent others levers : List ℕ} → within row_counts rows ≡ true
    → length lent ≡ length entry - 1 → (next : ℕ) → OthersRead bytes count.next rows lent others levers (Ok next)
    → PartRead bytes count rows entry (count.value ∷ others) levers (Ok next)
part_taken {count = count} right long next read = record { means = rw right (rw long at (read.means count.value)); within = read.within }

-- What reading a part from a place on gives: the place after it, or the refusal's number.
pub record PartGives (bytes : List ℕ) (from : ℕ) (first : Bool) (entry : List ℕ) (parse : Parse Part) : Type 0 where
  pub is : read_part first (length entry - 1) (drop from bytes) ≡ parse

module _ {bytes : List ℕ} {from : ℕ} {first : Bool} {entry : List ℕ} where
  -- the row count can't be read
  pub count_stops : {r : NumberRefusal} → NumberRead bytes from (Err r) → PartGives bytes from first entry (refused (number_of r))
  unfolding read_part
  count_stops read = record { is = rw (← read.means) }

  -- it can
  pub part_gives : {fields levers : List ℕ} {run : Result ℕ ReadRefusal} {count : Number} {rows : ℕ} → rows ≡ rows_by first count.value
      → NumberRead bytes from (Ok count)
      → PartRead bytes count rows entry fields levers run
      → PartGives bytes from first entry (part_meaning read_refusal bytes fields levers run)
  unfolding read_part
  part_gives by read part = record { is = rw (← read.means) (sym (rw by at part.means)) }

-- the refusal that a `?` hands on is told by its number
pub refused_by : (end : ℕ) {r : ℕ} {parse : Parse Joint} {Told : ReadRefusal → Type 0} (told : Result ReadJoint ReadRefusal) → IsErrAnd told Told
    → ((refusal : ReadRefusal) → Told refusal → read_refusal refusal ≡ r) → parse ≡ refused r → reading_meaning end told ≡ answer end parse
refused_by end (Ok read) none number stops = absurd none
refused_by end (Err refusal) told number stops = rw (stops, number refusal told)

others_long : (xs : List ℕ) → suc (length xs) - 1 ≡ length xs
others_long xs = omega arith

-- the places of a part's fields, of which the first has the count and the others are lent
pub lent_others : (fields : List ℕ) (count : ℕ) → 1 ≤ length fields
    → length (take (length (set fields 0 count) - 1) (drop 1 (set fields 0 count))) ≡ length fields - 1
lent_others [] count some = absurd (omega arith)
lent_others (x ∷ xs) count some = rw (others_long xs, take-length)

pub counted : (fields others : List ℕ) (count : ℕ) → 1 ≤ length fields
    → put_mid 1 (length (set fields 0 count) - 1) (set fields 0 count) others ≡ count ∷ others
counted [] others count some = absurd (omega arith)
counted (x ∷ xs) others count some = rw (others_long xs, drop-length, append-nil)

-- ---- the second face

module _ (fields levers : List ℕ) where
  pub second_none : (bytes : List ℕ) → two_faced (field 1 fields) ≡ false
      → read_second fields levers bytes ≡ got (joint_of fields levers no_part.fields no_part.levers) bytes
  unfolding read_second
  second_none bytes one = rw one

  module _ (two : two_faced (field 1 fields) ≡ true) {bytes : List ℕ} {from : ℕ} where
    pub second_stopped : {r : ℕ} → PartGives bytes from false no_part.fields (refused r) → read_second fields levers (drop from bytes) ≡ refused r
    unfolding read_second
    second_stopped gives = rw (two, gives.is)

    pub second_taken : {second : Part} {left : List ℕ} → PartGives bytes from false no_part.fields (got second left)
        → read_second fields levers (drop from bytes) ≡ got (joint_of fields levers second.fields second.levers) left
    unfolding read_second
    second_taken gives = rw (two, gives.is)

-- the place after the joint, of the bytes left
pub answer_got : (bytes : List ℕ) (joint : Joint) (next : ℕ) → next ≤ length bytes
    → answer (length bytes) (got joint (drop next bytes)) ≡ record { refusal = 0; joint = joint; next = next }
answer_got bytes joint next within =
    let place : length bytes - length (drop next bytes) ≡ next = omega (arith, length-drop next bytes) in
    rw place

-- ---- the first face, whose fields stand in places for all: those that a kind lacks stand at the end

pub stored_count : (kind : FileKind) → Within (1 to field_count) (stored_field_count kind)
stored_count Old = record { low = omega arith; high = omega arith }
stored_count New = record { low = omega arith; high = omega arith }

-- the places before any of them is read
abbrev pub unread : List ℕ
unread = replicate (field_count - 1) 0 ++ (untold_end_distance ∷ [])

pub lent_fields : (kind : FileKind) → length (take (stored_field_count kind) unread) ≡ stored_field_count kind
lent_fields Old = refl
lent_fields New = refl

kept_fields : (kind : FileKind) → drop (stored_field_count kind) unread ≡ lacking kind
kept_fields Old = refl
kept_fields New = refl

module _ (kind : FileKind) {count : ℕ} (stored : count ≡ stored_field_count kind) {bytes : List ℕ} where
  gives_first : {parse : Parse Part} → PartGives bytes 0 true (take count unread) parse → read_part true (other_field_count kind) bytes ≡ parse
  gives_first gives = rw (stored, lent_fields kind) at gives.is

  pub joint_stopped : {r : ℕ} → PartGives bytes 0 true (take count unread) (refused r) → read_joint kind bytes ≡ refused r
  unfolding read_joint
  joint_stopped gives = rw (gives_first gives)

  pub joint_goes_on : {part : Part} {left : List ℕ} → PartGives bytes 0 true (take count unread) (got part left)
      → read_joint kind bytes ≡ read_second (part.fields ++ drop count unread) part.levers left
  unfolding read_joint
  joint_goes_on gives = rw (gives_first gives, stored, kept_fields kind)

-- ---- writing

module _ (joint : Joint) (buffer : List ℕ) where
  pub writing_rows : (rows_check joint).1 ≡ false → turned_down buffer 3 ≡ writing joint buffer
  unfolding writing
  writing_rows e = sym (fails _ (turned_down buffer) 3 _ _ e)

  module _ (right : (rows_check joint).1 ≡ true) where
    pub writing_spare : (spare_check joint).1 ≡ false → turned_down buffer 6 ≡ writing joint buffer
    unfolding writing
    writing_spare e = sym (holds _ (turned_down buffer) 3 _ _ right ∙ fails _ (turned_down buffer) 6 _ _ e)

    pub writing_file : (spare_check joint).1 ≡ true → writing_if_room (file New joint) buffer ≡ writing joint buffer
    unfolding writing writing_if_room
    writing_file e = sym (holds _ (turned_down buffer) 3 _ _ right ∙ holds _ (turned_down buffer) 6 _ _ e)
