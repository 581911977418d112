-- Each exported call: which slices are long enough, which refusal is answered, and what is put where. Assumes nothing.
use Rattle.std.specs.Prelude.{ℕ, List, ◌≡◌, Result, Ok, Err, OnOk, Bool, true, false, cond, ◌&&◌, leb, eqb, length, get_or, take, drop}
use Rattle.buffers.specs.Put.{at_front}
use Rattle.bolttable.specs.Area.{area_of}
use Rattle.bolttable.specs.Loading.{loaded, built_in}
use Rattle.bolttable.specs.declared.BoltTable.{BoltTable}
use Rattle.joint.specs.Faces.{two_faced, first_face}
use Rattle.joint.specs.declared.Face.{Face}
use Rattle.joint.specs.declared.Joint.{Joint}
use Rattle.allocation.specs.Allocation.{allocated}
use Rattle.jointfile.specs.File.{Reading, reading}
use Rattle.jointfile.specs.Write.{Writing, writing}
use Rattle.jointfile.specs.declared.FileKind.{FileKind}
use Rattle.jointfile.specs.declared.FileKind.TheVariants.{Old, New}
use Rattle.connection.specs.OneFace.{bolt_of}
use Rattle.connection.specs.Demand.{Demand3}
use Rattle.outcome.specs.Outcome.{Outcome, outcome_meaning}
use Rattle.outcome.specs.declared.JointRefusal.{JointRefusal}
use Rattle.work.specs.Work.{worked}
use Rattle.printer.specs.Sheet.{sheet_of}
use Rattle.printer.specs.Answers.{Printing, whole, no_room, printing}
use Rattle.words.specs.Words.{joint_word_count, joint_of_words, words_of}
use Rattle.words.specs.Tables.{table_word_count, table_of_words, words_of_table}
use Rattle.words.specs.Results.{face_word_count, outcome_word_count, outcome_words}
use Rattle.exports.specs.Answers.{Answered, answers, answered}

-- a joint's words and the place after it
pub record JointPlace : Type 0 where
  pub words : List ℕ
  pub next : ℕ

-- a buffer, and the count of bytes at its front
pub record BufferFront : Type 0 where
  pub bytes : List ℕ
  pub size : ℕ

abbrev pub allocating : (count : ℕ) (limits forces : List ℕ) → Answered (List ℕ)
allocating count limits forces =
    let allocation = allocated count limits in
    answered (leb 8 (length forces)) allocation.refusal 0 0 (at_front allocation.forces forces) forces

-- rule 13.5: 1 is the old kind of file, and any other number the new one
unfoldable pub kind_of : ℕ → FileKind
kind_of number = cond (eqb number 1) Old New

abbrev pub joint_put : Reading → List ℕ → JointPlace
joint_put read words = record { words = at_front (words_of read.joint) words; next = read.next }

abbrev pub reading_into : (bytes : List ℕ) (kind : ℕ) (words : List ℕ) (next : ℕ) → Answered JointPlace
reading_into bytes kind words next =
    let read = reading (kind_of kind) bytes in
    answered (leb joint_word_count (length words)) read.refusal 0 0 (joint_put read words) (record { words = words; next = next })

abbrev pub file_put : Writing → BufferFront
file_put written = record { bytes = written.buffer; size = written.size }

abbrev pub writing_into : (fields buffer : List ℕ) (size : ℕ) → Answered BufferFront
writing_into fields buffer size =
    let written = writing (joint_of_words fields) buffer in
    answered (leb joint_word_count (length fields)) written.refusal 0 0 (file_put written) (record { bytes = buffer; size = size })

-- rule 13.6: the table built in
abbrev pub built_in_into : (table : List ℕ) → Answered (List ℕ)
built_in_into table = answered (leb table_word_count (length table)) 0 0 0 (at_front (words_of_table built_in) table) table

-- rules 3.7 and 13.6: the table that is in force after loading
abbrev pub loading_into : (table in_force : List ℕ) → Answered (List ℕ)
loading_into table in_force =
    let loading = loaded (table_of_words in_force) (table_of_words table) in
    answered (leb table_word_count (length table) && leb table_word_count (length in_force))
    loading.refusal 0 0 (at_front (words_of_table loading.table) in_force) in_force

abbrev pub working_into : (table fields words : List ℕ) → Answered (List ℕ)
working_into table fields words =
    let outcome = worked (table_of_words table) (joint_of_words fields) in
    let refusal = outcome.refusal in
    answered (leb table_word_count (length table) && (leb joint_word_count (length fields) && leb outcome_word_count (length words)))
    refusal.number refusal.field refusal.face (at_front (outcome_words outcome) words) words

-- What Work came to, and what it left in the words: those of an outcome that is no refusal, or nothing.
abbrev pub WordsPut : Result (Unit {0}) JointRefusal → Outcome → (before after : List ℕ) → Type 0
WordsPut (Ok done) outcome before after = (outcome.refusal.number ≡ 0) × (after ≡ at_front (outcome_words outcome) before)
WordsPut (Err refused) outcome before after = (outcome_meaning (Err refused) ≡ outcome) × (after ≡ before)

-- Demand 3 of the words of a face: the first eight are its places for forces, and the fourteenth is its verdict on bending.
abbrev pub Demand3OfFace : (panel_counts : Bool) → BoltTable → Joint → Face → (words : List ℕ) → Type 0
Demand3OfFace panel_counts table joint face words =
    let bolts = joint.bolts in
    Demand3 panel_counts joint.column (bolt_of bolts (area_of table bolts.diameter)) face (take 8 words) (eqb (get_or words 13 0) 1)

-- Demand 3 of the words at exit: of one face, or of two, the second's after the first's.
pub record Demand3OfWords (table : BoltTable) (joint : Joint) (words : List ℕ) : Type 0 where
  pub one_face : two_faced joint.face.rows ≡ false → Demand3OfFace true table joint (first_face joint.face) words
  pub first_of_two : two_faced joint.face.rows ≡ true → Demand3OfFace false table joint (first_face joint.face) words
  pub second_of_two : two_faced joint.face.rows ≡ true → Demand3OfFace false table joint joint.other (drop face_word_count words)

-- What the words of a joint, worked with those of a table, came to: Work's outcome is put, and with it demand 3 holds.
pub record WorkedWords (table fields : List ℕ) (result : Result (Unit {0}) JointRefusal) (before after : List ℕ) : Type 0 where
  pub equals : WordsPut result (worked (table_of_words table) (joint_of_words fields)) before after
  pub demand : OnOk result (Demand3OfWords (table_of_words table) (joint_of_words fields) after)

-- rule 13.1: 101 says that there is no room for all lines
abbrev pub sheet_answer : (size : ℕ) → Printing → Answered BufferFront
sheet_answer size (whole total output) = answers 0 (record { bytes = output; size = total })
sheet_answer size (no_room output) = answers 101 (record { bytes = output; size = size })

abbrev pub sheeting_into : (input output : List ℕ) (size : ℕ) → Answered BufferFront
sheeting_into input output size = sheet_answer size (printing (sheet_of input) output)
