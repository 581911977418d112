-- What the calls lean on: that a refusal of Write leaves the buffer, that the field of a refusal of Work is small, and what the forces and the
-- words at exit are. Assumes nothing.
use Rattle.std.specs.Prelude.{Option, Ok, Err}
use Prim.Native.Nat.{ℕ, suc, ◌+◌, ◌≤◌}
use mathlib.Core.Path.{◌≡◌, refl, ap, ◌∙◌}
use mathlib.Core.List.{List, [], ◌∷◌, ◌++◌, append_assoc}
use mathlib.Core.Bool.{Bool, true, false, cond, ◌&&◌, and-eq-true_iff}
use native.Mathlib.Omega.{arith}
use borrow.Author.Tests.{le-leb, leb-true}
use lib.Dec.{leb, eqb}
use lib.ListN.{length, get_or, take, drop, length-append, length-drop}
use lib.Seq.{take_at, drop_at, get_or-append-add, length-take-le}
use Rattle.arithmetic.specs.Checks.{Check, first_failing}
use Rattle.arithmetic.proofs.Checks.{one_after_another}
use Rattle.buffers.specs.Put.{at_front}
use Rattle.bolttable.specs.Area.{area_of}
use Rattle.bolttable.specs.declared.BoltTable.{BoltTable}
use Rattle.joint.specs.Faces.{two_faced, first_face}
use Rattle.joint.specs.declared.Bolts.{Bolts}
use Rattle.joint.specs.declared.Column.{Column}
use Rattle.joint.specs.declared.Face.{Face}
use Rattle.joint.specs.declared.Joint.{Joint}
use Rattle.joint.specs.Fields.{lever_checks, fixed_checks, field_checks, FieldCheck, field_check, outside, field_of}
use Rattle.fields.specs.Fields.{field_count, own_count, joint_of}
use Rattle.jointfile.specs.Write.{Writing, turned_down, writing}
use Rattle.outcome.specs.Outcome.{Outcome, FaceOutcome}
use Rattle.outcome.specs.declared.FaceResult.{FaceResult}
use Rattle.connection.specs.OneFace.{bolt_of}
use Rattle.connection.specs.Connection.{refused_after_10, refusals_after_10, worked_face, worked_by, worked_connection}
use Rattle.connection.specs.Demand.{Demand3For}
use Rattle.work.specs.Work.{refused_outcome, of_one_face, if_taken, both_taken, worked_second, worked_faces, worked_with, worked}
use Rattle.work.specs.Demand.{Demand3Of}
use Rattle.work.proofs.Cases.{of_one, demand_alone}
use Rattle.words.specs.Words.{first_word_count, joint_word_count, words_from, joint_of_words}
use Rattle.words.specs.Results.{face_word_count, flag, figure_words, result_words, panel_flag, outcome_words}
use Rattle.exports.specs.Calls.{Demand3OfFace, Demand3OfWords}

-- ---- what comes of checks whose numbers have a bound

at_most : (high : ℕ) → List Check → Bool
at_most high [] = true
at_most high (check ∷ checks) = leb check.0 high && at_most high checks

-- what holds where none fails, and of each number within the bound, holds of the first that fails
by_number : {A : Type 0} (P : A → Type 0) (high : ℕ) (passed : A) (failed : ℕ → A) (checks : List Check)
    → at_most high checks ≡ true → P passed → ((number : ℕ) → number ≤ high → P (failed number))
    → P (first_failing passed failed checks)
unfolding first_failing at_most
by_number P high passed failed [] few none some = none
by_number P high passed failed ((number, test) ∷ checks) few none some =
    let both = (and-eq-true_iff (leb number high) (at_most high checks)).0 few in
    go test (by_number P high passed failed checks both.1 none some) (some number (leb-true number high both.0))
  where
    go : (t : Bool) → P (first_failing passed failed checks) → P (failed number)
        → P (cond t (first_failing passed failed checks) (failed number))
    go true others here = others
    go false others here = here

-- ---- Write: a refusal leaves the buffer as it was

pub write_kept : (joint : Joint) (buffer exit : List ℕ) (number : ℕ) → (number ≡ 0 → ⊥) → turned_down exit number ≡ writing joint buffer
    → exit ≡ buffer
unfolding writing at_most
write_kept joint buffer exit number some e =
    by_number (λ (w : Writing). turned_down exit number ≡ w → exit ≡ buffer) 6 _ (turned_down buffer) _ refl
    (λ wrote. absurd (some (ap (λ (w : Writing). w.refusal) wrote)))
    (λ refusal few is. ap (λ (w : Writing). w.buffer) is)
    e

-- ---- Work: a refusal has a field up to that of the last lever

levers_at_most : (n row : ℕ) (levers : List ℕ) → row + length levers ≤ 8 → at_most first_word_count (lever_checks n row levers) ≡ true
unfolding lever_checks at_most
levers_at_most n row [] few = refl
levers_at_most n row (h ∷ hs) few = rw (le-leb (31 + row) first_word_count (omega arith)) (levers_at_most n (suc row) hs (omega arith))

-- of one face, worked alone
module _ (panel_counts : Bool) (column : Column) (bolts : Bolts) (area : Option ℕ) (face : Face) where
  field_small : length face.levers ≡ 8 → field_of (field_check column bolts area face) ≤ first_word_count
  unfolding field_check field_checks fixed_checks at_most
  field_small eight =
      let levers = lever_checks face.rows 0 face.levers in
      rw (one_after_another (Ok tt) outside (fixed_checks column bolts area face) levers)
      (by_number (λ (f : FieldCheck). field_of f ≤ first_word_count) first_word_count _ outside _ refl
      (by_number (λ (f : FieldCheck). field_of f ≤ first_word_count) first_word_count (Ok tt) outside levers
      (levers_at_most face.rows 0 face.levers (omega arith)) (omega arith) (λ number few. few))
      (λ number few. few))

  face_small : (worked_face panel_counts column (bolt_of bolts area) face).field ≤ first_word_count
  unfolding worked_face refusals_after_10 at_most
  face_small =
      by_number (λ (o : FaceOutcome). o.field ≤ first_word_count) 19 _ refused_after_10 _ refl (omega arith) (λ number few. omega arith)

  connection_small : length face.levers ≡ 8 → (worked_connection panel_counts column bolts area face).field ≤ first_word_count
  unfolding worked_connection
  connection_small eight = go (field_check column bolts area face) (field_small eight)
    where
      go : (found : FieldCheck) → field_of found ≤ first_word_count
          → (worked_by found (worked_face panel_counts column (bolt_of bolts area) face)).field ≤ first_word_count
      go (Ok passed) small = face_small
      go (Err found) small = small

-- of a face and what comes after it
if_small : (face : ℕ) (outcome : FaceOutcome) (next : FaceResult → Outcome) → outcome.field ≤ first_word_count
    → ((result : FaceResult) → (next result).refusal.field ≤ first_word_count) → (if_taken face outcome next).refusal.field ≤ first_word_count
if_small face outcome next small after = go (eqb outcome.number 0)
  where
    go : (t : Bool) → (cond t (next outcome.result) (refused_outcome outcome.number outcome.field face)).refusal.field ≤ first_word_count
    go true = after outcome.result
    go false = small

work_small : (area : Option ℕ) (joint : Joint) → length joint.face.levers ≡ 8 → length joint.other.levers ≡ 8
    → (worked_with area joint).refusal.field ≤ first_word_count
unfolding worked_with worked_faces first_face
work_small area joint eight eight' = go (two_faced joint.face.rows)
  where
    first : Face
    first = first_face joint.face

    go : (t : Bool)
        → (cond t (worked_faces joint.column joint.bolts area first joint.other)
        (of_one_face (worked_connection true joint.column joint.bolts area first))).refusal.field ≤ first_word_count
    go true =
        if_small 1 (worked_connection false joint.column joint.bolts area first)
        (worked_second joint.column joint.bolts area first joint.other)
        (connection_small false joint.column joint.bolts area first eight)
        (λ result. if_small 2 (worked_connection false joint.column joint.bolts area joint.other)
        (both_taken joint.column first joint.other result)
        (connection_small false joint.column joint.bolts area joint.other eight')
        (λ other. omega arith))
    go false = connection_small true joint.column joint.bolts area first eight

eight_words : (from : ℕ) (fields : List ℕ) → from + 8 ≤ length fields → length (words_from from 8 fields) ≡ 8
eight_words from fields room = length-take-le 8 (drop from fields) (omega (arith, length-drop from fields))

pub refusal_small : (table : BoltTable) (fields : List ℕ) → joint_word_count ≤ length fields
    → {outcome : Outcome} → outcome ≡ worked table (joint_of_words fields)
    → outcome.refusal.field ≤ first_word_count
unfolding joint_of
refusal_small table fields room is =
    rw is
    (work_small _ (joint_of_words fields) (eight_words field_count fields (omega (arith, room)))
    (eight_words (first_word_count + own_count) fields (omega (arith, room))))

-- a joint with one face, by its parts
module _ (table : BoltTable) (joint : Joint) {column : Column} {bolts : Bolts} {face : Face} {area : Option ℕ}
    (alone : two_faced joint.face.rows ≡ false) (parts : (column ≡ joint.column) × (bolts ≡ joint.bolts) × (face ≡ joint.face))
    (listed : area ≡ area_of table bolts.diameter) where
  pub alone_is : {outcome : Outcome} → outcome ≡ of_one_face (worked_connection true column bolts area face)
      → outcome ≡ worked table joint
  alone_is is =
      is ∙ ap of_one_face (rw (listed, parts.0, parts.1, parts.2)) ∙ of_one (area_of table joint.bolts.diameter) joint alone

  pub alone_demand : (outcome : Outcome) → Demand3For true column bolts area face outcome.result → Demand3Of table joint outcome
  alone_demand outcome demand =
      let same : Demand3For true joint.column joint.bolts (area_of table joint.bolts.diameter) joint.face outcome.result =
      rw (← parts.0, ← parts.2, ← parts.1, ← listed) demand
      in
      demand_alone (area_of table joint.bolts.diameter) joint outcome alone same

-- ---- what stands at the front, at exit

-- a face's words, with any after them
module _ (result : FaceResult) (rest : List ℕ) (eight : length result.forces ≡ 8) where
  forces_first : take 8 (result_words result ++ rest) ≡ result.forces
  forces_first =
      rw (append_assoc result.forces (figure_words result) rest) (take_at result.forces (figure_words result ++ rest) 8 eight)

  bending_word : get_or (result_words result ++ rest) 13 0 ≡ flag result.verdicts.bending
  unfolding figure_words
  bending_word =
      let place : 13 ≡ length result.forces + 5 = omega arith in
      rw (append_assoc result.forces (figure_words result) rest, place)
      (get_or-append-add result.forces (figure_words result ++ rest) 5 0)

flag_back : (passes : Bool) → eqb (flag passes) 1 ≡ passes
flag_back true = refl
flag_back false = refl

-- demand 3 of a face is demand 3 of its words, with any after them
of_words : (panel_counts : Bool) (table : BoltTable) (joint : Joint) (face : Face) (result : FaceResult) (rest : List ℕ)
    → length result.forces ≡ 8
    → Demand3For panel_counts joint.column joint.bolts (area_of table joint.bolts.diameter) face result
    → Demand3OfFace panel_counts table joint face (result_words result ++ rest)
of_words panel_counts table joint face result rest eight demand =
    rw (forces_first result rest eight, bending_word result rest eight, flag_back result.verdicts.bending) demand

module _ (words : List ℕ) (outcome : Outcome) where
  -- what follows the second face's words, and the first's
  after_second : List ℕ
  after_second = (panel_flag outcome.panel ∷ []) ++ drop (length (outcome_words outcome)) words

  first_words : at_front (outcome_words outcome) words
      ≡ result_words outcome.result ++ (result_words outcome.other ++ after_second)
  unfolding after_second
  first_words =
      let first = result_words outcome.result in
      let second = result_words outcome.other in
      append_assoc (first ++ second) (panel_flag outcome.panel ∷ []) (drop (length (outcome_words outcome)) words)
      ∙ append_assoc first second after_second

  second_words : length outcome.result.forces ≡ 8
      → drop face_word_count (at_front (outcome_words outcome) words) ≡ result_words outcome.other ++ after_second
  unfolding figure_words
  second_words eight =
      ap (drop face_word_count) first_words
      ∙ drop_at (result_words outcome.result) (result_words outcome.other ++ after_second) face_word_count
      (rw (length-append outcome.result.forces) (omega (arith, eight)))

-- demand 3 of the words at exit
pub demand_words : (words : List ℕ) (table : BoltTable) (joint : Joint) (outcome : Outcome) → length outcome.result.forces ≡ 8
    → length outcome.other.forces ≡ 8 → Demand3Of table joint outcome
    → Demand3OfWords table joint (at_front (outcome_words outcome) words)
demand_words words table joint outcome eight eight' demand =
    let first = first_face joint.face in
    let rest = result_words outcome.other ++ after_second words outcome in
    record {
      one_face = λ alone.
          rw (first_words words outcome) (of_words true table joint first outcome.result rest eight (demand.one_face alone));
      first_of_two = λ two.
          rw (first_words words outcome) (of_words false table joint first outcome.result rest eight (demand.two_faces two).of_first);
      second_of_two = λ two.
          rw (second_words words outcome eight)
          (of_words false table joint joint.other outcome.other (after_second words outcome) eight'
          (demand.two_faces two).of_second);
    }
