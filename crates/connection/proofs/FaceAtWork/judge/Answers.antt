-- `judge` meets its contract, verdict by verdict (the laws of `Judged`). Assumes nothing.
use mathlib.Core.Path.{◌≡◌, ap, ◌∙◌}
use Prim.Native.Nat.{◌≤◌, ◌-◌, zero-le}
use native.Mathlib.Omega.{arith}
use lib.ListN.{take}
use Rattle.verdicts.specs.Bending.{carries}
use Rattle.verdicts.specs.Tally.{pulling_rows}
use Rattle.verdicts.specs.Welds.{flange_weld_by, top_rows}
use Rattle.connection.proofs.Judged.{top_judged, pulling_le, bolts_judged}
use Rattle.connection.proofs.FaceAtWork.judge.Goals as goal
use Rattle.connection.proofs.FaceAtWork.judge.Goals.{Start}

pulling : (c : Start) → c.args.tally.pulling ≡ pulling_rows (take c.args.self.now.face.now.rows c.args.forces)
pulling c = ap (λ t. t.pulling) c.requires.tallied

few_pull : (c : Start) → c.args.tally.pulling ≤ c.args.self.now.face.now.rows
few_pull c =
    let s = c.args.self.now in
    omega (arith, pulling c, pulling_le s.column.now s.bolt s.face.now (take s.face.now.rows c.args.forces) c.requires.rows)

pub overflow_sub-idle : goal.overflow_sub-idle
overflow_sub-idle c =
    let here = goal.at.overflow_sub-idle c in
    omega (arith, few_pull here.Start)

pub bolts_carry-requires : goal.bolts_carry-requires
bolts_carry-requires c =
    let here = goal.at.bolts_carry-requires c in
    let known = c.args.self.now.at_work in
    let f = known.face in
    record {
      pair = record { bolt = known.bolt; column = known.column; plate = f.plate };
      pulling_rows = record { low = zero-le; high = omega (arith, few_pull here.Start, f.rows.high) };
      idle_rows = record { low = zero-le; high = omega (arith, f.rows.high, f.shear_rows.high) };
    }

pub returns : goal.returns
returns c =
    let here = goal.at.returns c in
    let s = c.args.self.now in
    let face = s.face.now in
    let top = c.top_rows.ensures ∙ ap (top_rows face.extended) c.requires.places ∙ top_judged face.extended _ in
    λ i. record {
      bending = (c.carries_moment.ensures ∙ ap (λ t. carries face.loads face.beam t.moment) c.requires.tallied) i;
      bolts = (c.bolts_carry.ensures ∙ bolts_judged s.column.now s.bolt face _ c.requires.rows _ _ (pulling here.Start) (ap (λ n. n - c.args.tally.pulling) c.from.ensures)) i;
      flange_weld = (c.flange_weld.ensures ∙ ap (flange_weld_by face) top) i;
      web_weld = c.web_weld.ensures i;
    }
