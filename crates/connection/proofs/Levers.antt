-- The levers of an admitted face's rows: each is at least 1, none is above the greatest, and they fall. So demand 3 can be stated of them,
-- and a triangle worked from them. Assumes nothing.
use Rattle.std.specs.Prelude.{◌≡◌, Some, None}
use mathlib.Core.Bool.{Bool, true, false, cond}
use Prim.Native.Nat.{ℕ, suc, ◌≤◌, ◌<◌}
use native.Mathlib.Omega.{arith}
use lib.ListN.{length, get_or}
use lib.Seq.{length-take-le, get_or-take}
use Rattle.arithmetic.specs.Range.{Within, ◌to◌}
use Rattle.joint.specs.Ranges.{row_counts, most_lever}
use Rattle.joint.specs.declared.Column.{Column}
use Rattle.joint.specs.declared.Face.{Face}
use Rattle.joint.proofs.InRange.{row_lever}
use Rattle.sharing.specs.Sharing.{Falling}
use Rattle.strength.specs.Thickness.{both_too_thick}
use Rattle.strength.specs.declared.BoltStrengths.{BoltStrengths}
use Rattle.tension.specs.Admissible.{Admissible}
use Rattle.allocation.specs.Steps.{TriangleFits}
use Rattle.connection.specs.OneFace.{rows_of, levers_of, steel_of, face_triangle, triangle_on}

module _ (column : Column) (face : Face) (a : Admissible column face) (eight : length face.levers ≡ row_counts.high) where
  enough : rows_of face ≤ length face.levers
  enough = omega (arith, eight, a.face.rows.high)

  own_lever : (row : ℕ) → row < rows_of face → get_or (levers_of face) row 0 ≡ get_or face.levers row 0
  own_lever row inside = get_or-take (rows_of face) face.levers row 0 inside

  lever : (row : ℕ) → row < rows_of face → Within (1 to most_lever) (get_or (levers_of face) row 0)
  lever row inside = rw (own_lever row inside) (row_lever face a.face row inside (omega (arith, enough)))

  pub falling : Falling (levers_of face) (rows_of face)
  falling = record {
    rows = length-take-le (rows_of face) face.levers enough;
    falls = λ k h. rw (own_lever (suc k) h, own_lever k (omega arith)) (a.falls k h);
    positive = λ k h. (lever k h).low;
  }

  pub triangle_fits : (bolt : BoltStrengths) → TriangleFits (triangle_on column bolt face) (rows_of face)
  unfolding triangle_on
  triangle_fits bolt = go (both_too_thick column face.plate (steel_of column face) bolt)
    where
      go : (thick : Bool) → TriangleFits (cond thick (Some (face_triangle face)) None) (rows_of face)
      go true = record {
        rows = falling.rows;
        positive = λ inside. (lever face.extended inside).low;
        high = λ row inside. (lever row inside).high;
      }
      go false = tt
