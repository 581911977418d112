-- Working one face (rules 11): the refusals in their order, and else the whole result. Assumes nothing.
use Rattle.std.specs.Prelude.{ℕ, Bool, not, List, [], ◌∷◌, Option, Ok, Err}
use Rattle.arithmetic.specs.Checks.{Check, first_failing}
use Rattle.joint.specs.Fields.{FieldCheck, field_check}
use Rattle.joint.specs.declared.Bolts.{Bolts}
use Rattle.joint.specs.declared.Column.{Column}
use Rattle.joint.specs.declared.Face.{Face}
use Rattle.sharing.specs.Groups.{total}
use Rattle.sharing.specs.Sharing.{newton_metres}
use Rattle.joint.specs.Places.{eight_places}
use Rattle.strength.specs.declared.BoltStrengths.{BoltStrengths}
use Rattle.spacing.specs.Spacing.{spacing_of}
use Rattle.governing.specs.Governing.{force_of}
use Rattle.governing.specs.Cap.{over_compressed, newtons_of}
use Rattle.refusals.specs.Refusals.{levers_fall, rows_apart, rows_in_place, too_tight}
use Rattle.connection.specs.OneFace.{bolt_of, governing_of, cap_of, forces_of, moment_of, verdicts_of}
use Rattle.outcome.specs.Outcome.{FaceOutcome, no_result}
use Rattle.outcome.specs.declared.FaceResult.{FaceResult}

-- a refusal of a face
abbrev pub refused_face : (number field : ℕ) → FaceOutcome
refused_face number field = record { number = number; field = field; result = no_result }

-- a refusal after 10
abbrev pub refused_after_10 : (number : ℕ) → FaceOutcome
refused_after_10 number = refused_face number 0

-- rules 11.3 to 11.5, 11.7 and 11.10: the refusals after 10 in their order, each number with the test that lets a face pass
unfoldable pub refusals_after_10 : (panel_counts : Bool) → Column → BoltStrengths → Face → List Check
refusals_after_10 panel_counts column bolt face =
    (11, levers_fall face)
    ∷ (19, rows_apart bolt.diameter face)
    ∷ (12, rows_in_place face)
    ∷ (13, not (too_tight face.extended (spacing_of column face)))
    ∷ (15, not (over_compressed face.loads (force_of (governing_of panel_counts column face))))
    ∷ []

-- The whole result of a face that isn't refused.
unfoldable pub result_of : (panel_counts : Bool) → Column → BoltStrengths → Face → FaceResult
result_of panel_counts column bolt face =
    let forces = forces_of panel_counts column bolt face in
    record {
      forces = eight_places forces;
      sum = total forces;
      newton_metres = newton_metres (moment_of face forces);
      cap = newtons_of (cap_of panel_counts column face);
      check = governing_of panel_counts column face;
      verdicts = verdicts_of column bolt face forces;
    }

-- what a face answers with it
abbrev pub completed : FaceResult → FaceOutcome
completed result = record { number = 0; field = 0; result = result }

-- A face whose fields are in range: the first refusal whose test fails, and else the result.
unfoldable pub worked_face : (panel_counts : Bool) → Column → BoltStrengths → Face → FaceOutcome
unfolding refusals_after_10 result_of
worked_face panel_counts column bolt face =
    first_failing (completed (result_of panel_counts column bolt face)) refused_after_10 (refusals_after_10 panel_counts column bolt face)

-- rule 11.2: 10 with the first field that is out of range; then the face
abbrev pub worked_by : FieldCheck → FaceOutcome → FaceOutcome
worked_by (Ok passed) outcome = outcome
worked_by (Err found) outcome = refused_face 10 found.field

-- A connection: one face, whatever its fields are, on the column with its bolts and the area that the table in force lists for them.
unfoldable pub worked_connection : (panel_counts : Bool) → Column → Bolts → Option ℕ → Face → FaceOutcome
unfolding worked_face
worked_connection panel_counts column bolts area face =
    worked_by (field_check column bolts area face) (worked_face panel_counts column (bolt_of bolts area) face)
