-- Working a joint (rules 11): a face on its own, or two of them and the panel between them. Assumes nothing.
use Rattle.std.specs.Prelude.{ℕ, true, false, cond, eqb, Option}
use Rattle.bolttable.specs.Area.{area_of}
use Rattle.bolttable.specs.declared.BoltTable.{BoltTable}
use Rattle.joint.specs.Faces.{two_faced, first_face}
use Rattle.joint.specs.declared.Bolts.{Bolts}
use Rattle.joint.specs.declared.Column.{Column}
use Rattle.joint.specs.declared.Face.{Face}
use Rattle.joint.specs.declared.Joint.{Joint}
use Rattle.joint.specs.declared.Loads.{Loads}
use Rattle.strength.specs.Steel.{steel_strength}
use Rattle.compression.specs.Compression.{panel_shear}
use Rattle.panel.specs.Panel.{governing_total, panel_passes}
use Rattle.connection.specs.Connection.{worked_connection}
use Rattle.outcome.specs.Outcome.{FaceOutcome, Outcome, PanelVerdict, NotAsked, Passes, Fails, no_result}
use Rattle.outcome.specs.declared.FaceResult.{FaceResult}

-- rule 8.6: the panel's verdict, by the sums of forces and the loads of the two faces
unfoldable pub panel_verdict : Column → (first_sum : ℕ) (first : Loads) (second_sum : ℕ) (second : Loads) → PanelVerdict
panel_verdict column first_sum first second_sum second =
    let shear = panel_shear (steel_strength column.grade column.flange) column in
    cond (panel_passes shear (governing_total first_sum first) (governing_total second_sum second)) Passes Fails

-- rule 11.8: in a refusal nothing of either face shows
abbrev pub refused_outcome : (number field face : ℕ) → Outcome
refused_outcome number field face = record {
  refusal = record { number = number; field = field; face = face };
  result = no_result;
  other = no_result;
  panel = NotAsked;
}

-- a joint with one face: no face is told, nothing of a second shows, and the panel isn't asked
abbrev pub of_one_face : FaceOutcome → Outcome
of_one_face outcome = record {
  refusal = record { number = outcome.number; field = outcome.field; face = 0 };
  result = outcome.result;
  other = no_result;
  panel = NotAsked;
}

-- rule 11.9: what comes of a face that may be refused, its number told with the refusal; and else what comes after it
abbrev pub if_taken : (face : ℕ) → FaceOutcome → (FaceResult → Outcome) → Outcome
if_taken face outcome next =
    cond (eqb outcome.number 0) (next outcome.result) (refused_outcome outcome.number outcome.field face)

-- the whole answer of two faces that are both taken
abbrev pub both_taken : Column → (first second : Face) (result other : FaceResult) → Outcome
both_taken column first second result other = record {
  refusal = record { number = 0; field = 0; face = 0 };
  result = result;
  other = other;
  panel = panel_verdict column result.sum first.loads other.sum second.loads;
}

-- rules 5.10 and 11.9: panel shear counts in neither's cap, and all of the first face's refusals come before the second's
abbrev pub worked_second : Column → Bolts → Option ℕ → (first second : Face) (result : FaceResult) → Outcome
worked_second column bolts area first second result =
    if_taken 2 (worked_connection false column bolts area second) (both_taken column first second result)

unfoldable pub worked_faces : Column → Bolts → Option ℕ → (first second : Face) → Outcome
worked_faces column bolts area first second =
    if_taken 1 (worked_connection false column bolts area first) (worked_second column bolts area first second)

-- A joint with the area of its bolts, by field 1: where it has one face nothing of a second is looked at, and panel shear counts.
unfoldable pub worked_with : Option ℕ → Joint → Outcome
worked_with area joint =
    let first = first_face joint.face in
    cond (two_faced joint.face.rows)
    (worked_faces joint.column joint.bolts area first joint.other)
    (of_one_face (worked_connection true joint.column joint.bolts area first))

-- rule 3.8: a joint, by the area that the bolt table in force lists for its bolts
abbrev pub worked : BoltTable → Joint → Outcome
worked table joint = worked_with (area_of table joint.bolts.diameter) joint
