-- What the code's answers mean, what its steps require, and which joints the round trip is about. Assumes nothing.
use Rattle.std.specs.Prelude.{ℕ, Result, Ok, Err, ◌+◌, ◌-◌, ◌^◌, ◌≤◌, ◌<◌, ◌≡◌, List, [], ◌∷◌, ◌++◌, true, false, cond, length, get_or, drop}
use Rattle.arithmetic.specs.Range.{within}
use Rattle.joint.specs.Ranges.{row_counts}
use Rattle.joint.specs.Faces.{two_faced}
use Rattle.joint.specs.declared.Joint.{Joint}
use Rattle.numbers.specs.Parse.{Parse, got, refused}
use Rattle.numbers.specs.Run.{stored_all}
use Rattle.numbers.specs.Answers.{number_of, end_place}
use Rattle.numbers.specs.declared.number.Number.{Number}
use Rattle.numbers.specs.declared.number.NumberRefusal.{NumberRefusal}
use Rattle.fields.specs.Fields.{field_count, own_count, second_face_of}
use Rattle.jointfile.specs.File.{Part, lacking, stored_field_count, no_part, read_others, no_joint, Reading}
use Rattle.jointfile.specs.Write.{first_fields, second_fields, Writing, turned_down, rows_check, spare_check, room_check, tried}
use Rattle.jointfile.specs.declared.FileKind.{FileKind}
use Rattle.jointfile.specs.declared.Reading.{Reading as ReadJoint}
use Rattle.jointfile.specs.declared.ReadRefusal.{ReadRefusal}
use Rattle.jointfile.specs.declared.ReadRefusal.TheVariants.{BytesEnd, WrongForm, RowCount as NoRowCount}
use Rattle.jointfile.specs.declared.WriteRefusal.{WriteRefusal}
use Rattle.jointfile.specs.declared.WriteRefusal.TheVariants.{RowCount, NoRoom, SpareLever}

-- the numbers of the refusals
abbrev pub read_refusal : ReadRefusal → ℕ
read_refusal BytesEnd = 1
read_refusal WrongForm = 2
read_refusal NoRowCount = 3

abbrev pub write_refusal : WriteRefusal → ℕ
write_refusal RowCount = 3
write_refusal NoRoom = 5
write_refusal SpareLever = 6

-- What the answer to reading bytes that end at `end` means: a refusal shows no joint, and the end for the place after it.
abbrev pub reading_meaning : ℕ → Result ReadJoint ReadRefusal → Reading
reading_meaning end (Ok read) = record { refusal = 0; joint = read.joint; next = read.next }
reading_meaning end (Err r) = record { refusal = read_refusal r; joint = no_joint; next = end }

-- What the answer to writing means, with the buffer at exit.
abbrev pub written_meaning : Result ℕ WriteRefusal → List ℕ → Writing
written_meaning (Ok size) buffer = record { refusal = 0; size = size; buffer = buffer }
written_meaning (Err r) buffer = turned_down buffer (write_refusal r)

-- What writing comes to where the row counts and the spare levers are right, so that only the room is left to try.
unfoldable pub writing_if_room : (bytes buffer : List ℕ) → Writing
writing_if_room bytes buffer = tried bytes buffer (room_check bytes buffer ∷ [])

-- What reading gives, where the fields of a part stand in one list and its levers in another, by the numbers of the refusals.
abbrev pub part_meaning : {E : Type 0} → (number : E → ℕ) → (bytes fields levers : List ℕ) → Result ℕ E → Parse Part
part_meaning number bytes fields levers (Ok next) = got (record { fields = fields; levers = levers }) (drop next bytes)
part_meaning number bytes fields levers (Err r) = refused (number r)

-- The answer to reading what follows a row count: after any count it means what the definition gives from the place on, and from a place in
-- the bytes it goes to another.
pub record OthersRead (bytes : List ℕ) (from rows : ℕ) (entry others levers : List ℕ) (run : Result ℕ NumberRefusal) : Type 0 where
  pub means : (count : ℕ) → part_meaning number_of bytes (count ∷ others) levers run ≡ read_others (length entry) count rows (drop from bytes)
  pub within : from ≤ length bytes → end_place run ≤ length bytes

-- The answer to reading a part after its row count, which stands for so many rows, where its fields have the places of `entry`: 3 where a
-- part can't have so many, or what follows the count.
pub record PartRead (bytes : List ℕ) (count : Number) (rows : ℕ) (entry fields levers : List ℕ) (run : Result ℕ ReadRefusal) : Type 0 where
  pub means :
      part_meaning read_refusal bytes fields levers run
      ≡ cond (within row_counts rows) (read_others (length entry - 1) count.value rows (drop count.next bytes)) (refused 3)
  pub within : count.next ≤ length bytes → end_place run ≤ length bytes

-- The bytes of the numbers of a part; and of a file: of the first face, and of the second, none where there is no second.
abbrev pub part_stored : (fields levers : List ℕ) → List ℕ
part_stored fields levers = stored_all fields ++ stored_all levers

abbrev pub numbers_stored : (fields levers own other_levers : List ℕ) → List ℕ
numbers_stored fields levers own other_levers = part_stored fields levers ++ part_stored own other_levers

-- The numbers of a file, no more than a file has, of which the first takes one byte.
pub record FileParts (fields levers own other_levers : List ℕ) : Type 0 where
  pub some : 1 ≤ length fields
  pub few : length fields ≤ field_count
  pub count : get_or fields 0 0 < 128
  pub rows : length levers ≤ 8
  pub own_few : length own ≤ own_count
  pub other_rows : length other_levers ≤ 8

-- Numbers of a part that the program can hold: eight levers, and each number of the file in 32 bits. Of N that is the number that it is
-- stored as, which takes 32 bits just where N is in the range of a signed field of 32.
pub record PartHeld (numbers hs : List ℕ) : Type 0 where
  pub eight : length hs ≡ 8
  pub fields : (k : ℕ) → get_or numbers k 0 < 2 ^ 32
  pub levers : (k : ℕ) → get_or hs k 0 < 2 ^ 32

-- A joint that the program can hold.
pub record Held (joint : Joint) : Type 0 where
  pub first : PartHeld (first_fields joint) joint.face.levers
  pub second : PartHeld (second_fields joint) joint.other.levers

-- A joint that is refused by neither 3 nor 6.
pub record Writable (joint : Joint) : Type 0 where
  pub rows : (rows_check joint).1 ≡ true
  pub spare : (spare_check joint).1 ≡ true

-- Where a joint has no second face, that is all 0, as reading gives it.
abbrev pub OtherTold : Joint → Type 0
OtherTold joint = two_faced joint.face.rows ≡ false → joint.other ≡ second_face_of no_part.fields no_part.levers

-- The joint that a file tells: where there is no second face, it is all 0, as reading gives it.
unfoldable pub as_told : Joint → Joint
as_told joint = record {
  column = joint.column;
  bolts = joint.bolts;
  face = joint.face;
  other = cond (two_faced joint.face.rows) joint.other (second_face_of no_part.fields no_part.levers);
}

-- A joint that a file of this kind tells whole: the fields that the file lacks, and the face that it has none of, are as reading gives
-- them.
pub record ToldBy (kind : FileKind) (joint : Joint) : Type 0 where
  pub lacks : drop (stored_field_count kind) (first_fields joint) ≡ lacking kind
  pub alone : OtherTold joint

-- No file of two faces is shorter: a byte for each field, and for each that the second face has of its own. Neither need have a lever.
abbrev pub least_two_faced : ℕ
least_two_faced = field_count + own_count
