-- `flange_weld` meets its contract: by its full strength, or by what it carries. Assumes nothing.
use native.Mathlib.Omega.{arith}
use Rattle.arithmetic.specs.Range.{◌to◌}
use Rattle.arithmetic.proofs.Bounds.{loosen}
use Rattle.joint.specs.Ranges.{legs, weld_lengths}
use Rattle.strength.proofs.Ranges.{weld_range, steel_range}
use Rattle.verdicts.proofs.flange_weld.Goals as goal

pub flange_capacity-flange-requires : goal.flange_capacity-flange-requires
flange_capacity-flange-requires c =
    let p = c.requires in
    let beam = p.face.beam in
    (rw p.beam_strength (steel_range _ _ beam.grade (omega (arith, beam.flange.high))), beam)

pub weld_capacity-requires : goal.weld_capacity-requires
weld_capacity-requires c =
    let p = c.requires in
    record {
      leg_most = loosen (0 to legs.high) p.face.welds.flange tt;
      length_most = loosen weld_lengths p.face.beam.width tt;
      strength = rw p.weld_strength (weld_range _ _);
    }
