-- `shared_forces` meets its contract: the cap is stored on group 1 to n, and the table shares alike (the laws of `Forces`). Assumes nothing.
use mathlib.Core.Path.{ap, ◌∙◌}
use Prim.Native.Nat.{◌-◌}
use native.Mathlib.Omega.{arith}
use Rattle.joint.specs.Places.{eight_places}
use Rattle.allocation.proofs.InTriangle.{rows_lowered}
use Rattle.allocation.proofs.Rows.{force_le_most}
use Rattle.connection.specs.OneFace.{triangle_on}
use Rattle.connection.proofs.Forces.{forces_agree, shareable}
use Rattle.connection.proofs.Levers.{triangle_fits}
use Rattle.connection.proofs.FaceAtWork.shared_forces.Goals as goal

pub share-requires : goal.share-requires
share-requires c =
    let s = c.args.self.now in
    let few = c.requires.0.face.rows.high in (
      shareable _ _ _ c.group_limits.ensures _ _ (s.face.now.rows - 1) _ (omega (arith, few)) (omega (arith, c.min.ensures)),
      rw c.triangle.ensures (triangle_fits s.column.now s.face.now c.requires.0 s.at_work.eight_levers s.bolt),
    )

pub returns : goal.returns
returns c =
    let s = c.args.self.now in
    let rows = c.requires.0.face.rows in
    let n = s.face.now.rows in
    let table = c.group_limits.ensures in
    let lower = c.min.ensures in
    let shares = shareable _ _ _ table n (n - 1) (n - 1) c.min.result rows.high (omega (arith, lower)) in
    let triangle = triangle_on s.column.now s.bolt s.face.now in
    let share = rw c.triangle.ensures at c.share.ensures in
    record {
      value = share ∙ ap eight_places (forces_agree _ c.args.cap _ _ _ table c.requires.1 rows.high _ lower triangle);
      by_index = (λ k. rw share (force_le_most shares (rows_lowered triangle) k));
    }
