-- `web_weld` meets its contract. Assumes nothing.
use native.Mathlib.Omega.{arith}
use Rattle.arithmetic.proofs.Bounds.{at_most}
use Rattle.strength.proofs.Ranges.{weld_range}
use Rattle.verdicts.proofs.web_weld.Goals as goal

pub weld_capacity-requires : goal.weld_capacity-requires
weld_capacity-requires c =
    let p = c.requires in
    record {
      leg_most = at_most (omega (arith, p.0.welds.flange.high, p.0.welds.web.high));
      length_most = p.0.welds.web_length;
      strength = rw p.1 (weld_range _ _);
    }
