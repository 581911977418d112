-- Work's definition case by case: a face that is refused and one that isn't, and a joint that has one face alone. Assumes nothing.
use Rattle.std.specs.Prelude.{Option, Ok, Err}
use mathlib.Core.Path.{◌≡◌, refl, sym, ap, subst, ◌∙◌}
use mathlib.Core.Bool.{Bool, true, false}
use Prim.Native.Nat.{ℕ}
use native.Mathlib.Omega.{arith}
use Rattle.joint.specs.Faces.{two_faced, with_rows, first_face}
use Rattle.joint.specs.declared.Bolts.{Bolts}
use Rattle.joint.specs.declared.Column.{Column}
use Rattle.joint.specs.declared.Face.{Face}
use Rattle.joint.specs.declared.Joint.{Joint}
use Rattle.joint.proofs.Faces.{rows_as_stored}
use Rattle.connection.specs.Connection.{worked_connection}
use Rattle.connection.specs.Demand.{Demand3For}
use Rattle.outcome.specs.Outcome.{FaceOutcome, Outcome, NotAsked, face_number, face_meaning, outcome_meaning}
use Rattle.outcome.specs.declared.FaceRefusal.{FaceRefusal}
use Rattle.outcome.specs.declared.FaceRefusal.TheVariants.{OutOfRange, LeversDontFall, RowsTooClose, RowOutOfPlace, TooTight, NoCap}
use Rattle.outcome.specs.declared.FaceResult.{FaceResult}
use Rattle.outcome.specs.declared.RefusedFace.{RefusedFace}
use Rattle.outcome.specs.declared.RefusedFace.TheVariants.{First, Second}
use Rattle.work.specs.Demand.{Demand3With}
use Rattle.work.specs.Work.{of_one_face, if_taken, both_taken, worked_second, worked_faces, worked_with}

-- ---- a face that may be refused

module _ (face : RefusedFace) (next : FaceResult → Outcome) {outcome : FaceOutcome} where
  if_refused : (refusal : FaceRefusal) → face_meaning (Err refusal) ≡ outcome
      → outcome_meaning (Err (record { refusal = refusal; face = face })) ≡ if_taken (face_number face) outcome next
  if_refused refusal e = by_refusal refusal ∙ ap (λ (o : FaceOutcome). if_taken (face_number face) o next) e
    where
      by_refusal : (refusal : FaceRefusal) → outcome_meaning (Err (record { refusal = refusal; face = face }))
          ≡ if_taken (face_number face) (face_meaning (Err refusal)) next
      by_refusal (OutOfRange field) = refl
      by_refusal LeversDontFall = refl
      by_refusal RowsTooClose = refl
      by_refusal RowOutOfPlace = refl
      by_refusal TooTight = refl
      by_refusal NoCap = refl

  if_worked : (result : FaceResult) → face_meaning (Ok result) ≡ outcome → next result ≡ if_taken (face_number face) outcome next
  if_worked result e = ap (λ (o : FaceOutcome). if_taken (face_number face) o next) e

-- ---- two faces, one after the other

module _ (column : Column) (bolts : Bolts) (area : Option ℕ) (first second : Face) where
  pub first_refused : (refusal : FaceRefusal) → face_meaning (Err refusal) ≡ worked_connection false column bolts area first
      → outcome_meaning (Err (record { refusal = refusal; face = First })) ≡ worked_faces column bolts area first second
  unfolding worked_faces
  first_refused refusal e = if_refused First (worked_second column bolts area first second) refusal e

  module _ (one : FaceResult) (e : face_meaning (Ok one) ≡ worked_connection false column bolts area first) where
    pub second_refused : (refusal : FaceRefusal) → face_meaning (Err refusal) ≡ worked_connection false column bolts area second
        → outcome_meaning (Err (record { refusal = refusal; face = Second })) ≡ worked_faces column bolts area first second
    unfolding worked_faces
    second_refused refusal e' =
        if_refused Second (both_taken column first second one) refusal e' ∙ if_worked First (worked_second column bolts area first second) one e

    pub both_worked : (two : FaceResult) → face_meaning (Ok two) ≡ worked_connection false column bolts area second
        → both_taken column first second one two ≡ worked_faces column bolts area first second
    unfolding worked_faces
    both_worked two e' =
        if_worked Second (both_taken column first second one) two e' ∙ if_worked First (worked_second column bolts area first second) one e

-- ---- one face alone

first_alone : (face : Face) → two_faced face.rows ≡ false → face ≡ first_face face
unfolding first_face
first_alone face alone = ap (with_rows face) (sym (rows_as_stored face.rows alone))

module _ (area : Option ℕ) (joint : Joint) where
  pub of_two : two_faced joint.face.rows ≡ true
      → worked_faces joint.column joint.bolts area (first_face joint.face) joint.other ≡ worked_with area joint
  unfolding worked_with
  of_two both = rw both

  pub of_one : two_faced joint.face.rows ≡ false
      → of_one_face (worked_connection true joint.column joint.bolts area joint.face) ≡ worked_with area joint
  unfolding worked_with
  of_one alone =
      ap (λ (face : Face). of_one_face (worked_connection true joint.column joint.bolts area face)) (first_alone joint.face alone)
      ∙ (rw alone)

  -- and then the panel isn't asked
  pub panel_alone : two_faced joint.face.rows ≡ false → (worked_with area joint).panel ≡ NotAsked
  panel_alone alone = ap (λ (outcome : Outcome). outcome.panel) (sym (of_one alone))

-- field 1 doesn't say both
not_both : {test : Bool} → test ≡ true → test ≡ false → ⊥
not_both e e' = let never : ◌≡◌ {A = ℕ} 0 1 = cc in absurd (omega arith)

-- ---- demand 3 by the call for one face

module _ (area : Option ℕ) (joint : Joint) (outcome : Outcome) where
  pub demand_alone : two_faced joint.face.rows ≡ false
      → Demand3For true joint.column joint.bolts area joint.face outcome.result
      → Demand3With area joint outcome
  demand_alone alone demand =
      record {
        one_face = λ same.
            subst (λ (face : Face). Demand3For true joint.column joint.bolts area face outcome.result)
            (first_alone joint.face alone) demand;
        two_faces = λ two. absurd (not_both two alone);
      }
