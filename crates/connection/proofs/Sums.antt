-- The sum of a face's forces is at most its cap, and so is small enough for what is reckoned with it. Assumes nothing.
use Rattle.std.specs.Prelude.{Option, ℕ}
use mathlib.Core.Path.{◌≡◌, sym, ap}
use mathlib.Core.Bool.{Bool}
use Prim.Native.Nat.{◌+◌, ◌^◌, ◌≤◌, ◌<◌}
use native.Mathlib.Omega.{arith}
use Rattle.joint.specs.InRange.{ColumnInRange, FaceInRange, InRange}
use Rattle.joint.specs.Ranges.{loads}
use Rattle.joint.specs.declared.Bolts.{Bolts}
use Rattle.joint.specs.declared.Column.{Column}
use Rattle.joint.specs.declared.Face.{Face}
use Rattle.strength.specs.declared.BoltStrengths.{BoltStrengths}
use Rattle.sharing.specs.Groups.{total, with_cap}
use Rattle.sharing.proofs.Theorems.{best}
use Rattle.sharing.specs.Triangle.{limits_in}
use Rattle.sharing.proofs.Triangle.{all_are_limits}
use Rattle.compression.specs.Compression.{resistances_of}
use Rattle.compression.specs.InRange.{most_bearing}
use Rattle.compression.proofs.Ranges.{bearing_le, parts_in_range}
use Rattle.governing.specs.Cap.{newtons_of}
use Rattle.governing.specs.Governing.{force_of}
use Rattle.governing.proofs.Cases.{cap_le}
use Rattle.governing.proofs.Least.{governing_le_bearing}
use Rattle.outcome.specs.Outcome.{FaceOutcome}
use Rattle.connection.specs.OneFace.{bolt_of, rows_of, limit_of, steel_of, governing_of, cap_of, triangle_on, forces_of}
use Rattle.connection.specs.Connection.{result_of, worked_connection}
use Rattle.connection.proofs.Answers.{not_refused, in_range_of}

module _ (panel_counts : Bool) (column : Column) (face : Face) where
  sum_le_cap : (bolt : BoltStrengths) → total (forces_of panel_counts column bolt face) ≤ newtons_of (cap_of panel_counts column face)
  unfolding forces_of
  sum_le_cap bolt =
      let limit = limit_of column bolt face in
      let cap = newtons_of (cap_of panel_counts column face) in
      let triangle = triangle_on column bolt face in
      ((all_are_limits triangle limit (rows_of face) cap (forces_of panel_counts column bolt face)).0
      (best (limits_in triangle (with_cap limit (rows_of face) cap) (rows_of face)) (rows_of face)).competes).1

  force_le : ColumnInRange column → FaceInRange face → force_of (governing_of panel_counts column face) ≤ most_bearing
  unfolding governing_of
  force_le c f =
      let resistances = resistances_of (steel_of column face) column face.beam face.plate face.welds in
      omega (arith, governing_le_bearing panel_counts resistances, bearing_le _ _ _ _ _ (parts_in_range column face c f))

  cap_small : ColumnInRange column → FaceInRange face → newtons_of (cap_of panel_counts column face) ≤ most_bearing + loads.high
  unfolding cap_of
  cap_small c f =
      omega (arith, cap_le face.loads (force_of (governing_of panel_counts column face)), force_le c f, f.loads.axial.high)

-- what is known of a connection that isn't refused: its fields are in range, and the sum of its forces is small
pub taken : (panel_counts : Bool) (column : Column) (bolts : Bolts) (area : Option ℕ) (face : Face) (answer : FaceOutcome)
    → worked_connection panel_counts column bolts area face ≡ answer → answer.number ≡ 0
    → InRange column bolts area face × (answer.result.sum < 2 ^ 32)
unfolding result_of
taken panel_counts column bolts area face answer e none =
    let inside = in_range_of panel_counts column bolts area face answer e none in
    let bolt = bolt_of bolts area in
    let whole = (not_refused panel_counts column bolt face answer inside.1 none).1 in
    let sum : answer.result.sum ≡ total (forces_of panel_counts column bolt face) = ap (λ a. a.result.sum) (sym whole) in
    let small = cap_small panel_counts column face inside.0.column inside.0.face in
    (inside.0, omega (arith, sum, sum_le_cap panel_counts column face bolt, small))
