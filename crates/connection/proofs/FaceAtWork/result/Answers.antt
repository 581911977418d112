-- `result` meets its contract: the forces, what they come to, and the verdicts on them. Assumes nothing.
use mathlib.Core.Path.{◌≡◌, sym, ap, ◌∙◌}
use Prim.Native.Nat.{◌/◌}
use lib.ListN.{length, take}
use Rattle.joint.specs.Places.{eight_places}
use Rattle.sharing.specs.Groups.{Table, with_cap}
use Rattle.sharing.specs.Sharing.{shared, newton_metres}
use Rattle.sharing.specs.Triangle.{limits_in}
use Rattle.sharing.proofs.Theorems.{best}
use Rattle.verdicts.specs.Tally.{tally_of}
use Rattle.connection.specs.OneFace.{levers_of, limit_of, triangle_on, forces_of, verdicts_of}
use Rattle.connection.specs.Connection.{result_of}
use Rattle.allocation.proofs.Answers.{rows_kept}
use Rattle.connection.proofs.FaceAtWork.result.Goals as goal
use Rattle.connection.proofs.FaceAtWork.result.Goals.{After-row_forces-forces}

limits : After-row_forces-forces → Table
limits c =
    let s = c.args.self.now in
    let rows = s.face.now.rows in
    limits_in (triangle_on s.column.now s.bolt s.face.now) (with_cap (limit_of s.column.now s.bolt s.face.now) rows c.args.cap) rows

-- the rows' places have the list that was shared
kept : (c : After-row_forces-forces)
    → let rows = c.args.self.now.face.now.rows in take rows c.row_forces-forces.result ≡ shared (limits c) rows
unfolding limits
kept c =
    let rows = c.args.self.now.face.now.rows in
    ap (take rows) c.row_forces-forces.ensures.value ∙ rows_kept rows (limits c)

places : (c : After-row_forces-forces)
    → c.row_forces-forces.result ≡ eight_places (take c.args.self.now.face.now.rows c.row_forces-forces.result)
unfolding limits
places c = c.row_forces-forces.ensures.value ∙ ap eight_places (sym (kept c))

pub judge-requires : goal.judge-requires
judge-requires c =
    let here = (goal.at.judge-requires c).After-row_forces-forces in
    record {
      rows = ap length (kept here) ∙ (best (limits here) c.args.self.now.face.now.rows).competes.rows;
      places = places here;
      bounded = c.row_forces-forces.ensures.by_index;
      tallied = c.tally_forces-tally.ensures.0;
      moment = c.tally_forces-tally.ensures.1;
    }

pub returns : goal.returns
unfolding result_of newton_metres forces_of limits
returns c =
    let here = (goal.at.returns c).After-row_forces-forces in
    let s = c.args.self.now in
    let rows = s.face.now.rows in
    λ panel_counts face-cap.
    let forces = kept here ∙ ap (λ cap. shared (limits_in (triangle_on s.column.now s.bolt s.face.now) (with_cap (limit_of s.column.now s.bolt s.face.now) rows cap) rows) rows) face-cap.newtons in
    let tally = c.tally_forces-tally.ensures.0 ∙ ap (tally_of (levers_of s.face.now)) forces in
    λ i. record {
      forces = (places here ∙ ap eight_places forces) i;
      sum = (tally i).sum;
      newton_metres = (tally i).moment / 10000;
      cap = face-cap.newtons i;
      check = face-cap.governs i;
      verdicts = (c.judge.ensures ∙ ap (verdicts_of s.column.now s.bolt s.face.now) forces) i;
    }
