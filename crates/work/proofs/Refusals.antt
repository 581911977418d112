-- 14 is told of no joint: of neither of its faces (the law of `connection`), and a joint that is taken has 0. Assumes nothing.
use mathlib.Core.Path.{◌≡◌}
use mathlib.Core.Bool.{Bool, true, false, cond}
use Rattle.std.specs.Prelude.{Option}
use Prim.Native.Nat.{ℕ}
use native.Mathlib.Omega.{arith}
use lib.Dec.{eqb}
use Rattle.bolttable.specs.Area.{area_of}
use Rattle.bolttable.specs.declared.BoltTable.{BoltTable}
use Rattle.joint.specs.Faces.{two_faced, first_face}
use Rattle.joint.specs.declared.Joint.{Joint}
use Rattle.connection.specs.Connection.{worked_connection}
use Rattle.connection.proofs.Answers.{never_fourteen as never_of_a_face}
use Rattle.outcome.specs.Outcome.{FaceOutcome, Outcome}
use Rattle.outcome.specs.declared.FaceResult.{FaceResult}
use Rattle.work.specs.Work.{refused_outcome, of_one_face, if_taken, both_taken, worked_second, worked_faces, worked_with, worked}

abbrev not_fourteen : Outcome → Type 0
not_fourteen outcome = outcome.refusal.number ≡ 14 → ⊥

of_either : (face : ℕ) (outcome : FaceOutcome) (next : FaceResult → Outcome) → (outcome.number ≡ 14 → ⊥)
    → ((result : FaceResult) → not_fourteen (next result)) → not_fourteen (if_taken face outcome next)
of_either face outcome next never after = by_number (eqb outcome.number 0)
  where
    by_number : (taken : Bool)
        → (cond taken (next outcome.result) (refused_outcome outcome.number outcome.field face)).refusal.number ≡ 14 → ⊥
    by_number true told = after outcome.result told
    by_number false told = never told

module _ (area : Option ℕ) (joint : Joint) where
  of_two : not_fourteen (worked_faces joint.column joint.bolts area (first_face joint.face) joint.other)
  unfolding worked_faces
  of_two =
      let first = first_face joint.face in
      of_either 1 (worked_connection false joint.column joint.bolts area first)
      (worked_second joint.column joint.bolts area first joint.other) (never_of_a_face false _ _ _ _)
      (λ result. of_either 2 (worked_connection false joint.column joint.bolts area joint.other)
      (both_taken joint.column first joint.other result) (never_of_a_face false _ _ _ _) (λ other told. omega (arith, told)))

  of_joint : not_fourteen (worked_with area joint)
  unfolding worked_with
  of_joint = by_faces (two_faced joint.face.rows)
    where
      by_faces : (two : Bool) → not_fourteen (cond two (worked_faces joint.column joint.bolts area (first_face joint.face) joint.other)
          (of_one_face (worked_connection true joint.column joint.bolts area (first_face joint.face))))
      by_faces true = of_two
      by_faces false = never_of_a_face true _ _ _ _

pub never_fourteen : (table : BoltTable) (joint : Joint) → (worked table joint).refusal.number ≡ 14 → ⊥
never_fourteen table joint = of_joint (area_of table joint.bolts.diameter) joint
