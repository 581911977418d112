-- A test of each face that a joint has: it passes where both faces do, and what it says of each; and of the test of the row counts, that
-- there are few rows. By cases on the mark. Assumes nothing.
use Prim.Native.Nat.{◌≤◌}
use mathlib.Core.Path.{◌≡◌, refl}
use mathlib.Core.Bool.{Bool, true, false, cond, and-eq-true_iff}
use Rattle.arithmetic.specs.Range.{within}
use Rattle.joint.specs.Ranges.{row_counts}
use Rattle.joint.specs.Faces.{two_faced, first_rows, first_face, on_faces}
use Rattle.joint.specs.declared.Face.{Face}
use Rattle.joint.specs.declared.Joint.{Joint}
use Rattle.joint.proofs.Faces.{at_most_eight}
use Rattle.jointfile.specs.Write.{rows_check}

module _ (test : Face → Bool) (joint : Joint) where
  pub both_pass : test (first_face joint.face) ≡ true → (two_faced joint.face.rows ≡ true → test joint.other ≡ true)
      → on_faces test joint ≡ true
  both_pass first second = rw first (by_mark (two_faced joint.face.rows) second)
    where
      by_mark : (mark : Bool) → (mark ≡ true → test joint.other ≡ true) → cond mark (test joint.other) true ≡ true
      by_mark true second = second refl
      by_mark false second = refl

  -- the faces of a joint that passes
  module _ (passes : on_faces test joint ≡ true) where
    pub first_passes : test (first_face joint.face) ≡ true
    first_passes = ((and-eq-true_iff _ _).0 passes).0

    pub second_passes : two_faced joint.face.rows ≡ true → test joint.other ≡ true
    second_passes two =
        rw two at
        ((and-eq-true_iff (test (first_face joint.face)) (cond (two_faced joint.face.rows) (test joint.other) true)).0 passes).1

-- the rows of a joint whose row counts are right
module _ (joint : Joint) (right : (rows_check joint).1 ≡ true) where
  pub first_rows_right : within row_counts (first_rows joint.face.rows) ≡ true
  unfolding first_face
  first_rows_right = first_passes (λ face. within row_counts face.rows) joint right

  pub second_rows_right : two_faced joint.face.rows ≡ true → within row_counts joint.other.rows ≡ true
  second_rows_right = second_passes (λ face. within row_counts face.rows) joint right

  pub first_rows_few : first_rows joint.face.rows ≤ 8
  first_rows_few = at_most_eight _ first_rows_right

  pub second_rows_few : two_faced joint.face.rows ≡ true → joint.other.rows ≤ 8
  second_rows_few two = at_most_eight _ (second_rows_right two)
