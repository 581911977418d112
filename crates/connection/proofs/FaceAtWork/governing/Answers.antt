-- `governing` meets its contract: the resistances are the face's own, and no governing force is above web bearing. Assumes nothing.
use mathlib.Core.Path.{ap, ◌∙◌}
use native.Mathlib.Omega.{arith}
use Rattle.compression.specs.Compression.{resistances_of}
use Rattle.compression.specs.InRange.{PartsInRange}
use Rattle.compression.proofs.Ranges.{bearing_le, parts_in_range}
use Rattle.governing.specs.Governing.{force_of, governing_check}
use Rattle.governing.proofs.Least.{governing_le_bearing}
use Rattle.connection.specs.OneFace.{governing_of}
use Rattle.connection.proofs.FaceAtWork.governing.Goals as goal

pub resistances_of-resistances-requires : goal.resistances_of-resistances-requires
resistances_of-resistances-requires c =
    let s = c.args.self.now in rw s.at_work.strengths (parts_in_range s.column.now s.face.now s.at_work.column s.at_work.face)

pub returns : goal.returns
unfolding governing_of
returns c =
    let s = c.args.self.now in
    let counts = c.args.panel_counts in
    let check = c.governing_check.ensures ∙ ap (governing_check counts) c.resistances_of-resistances.ensures in
    let resistances = resistances_of s.steel s.column.now s.face.now.beam s.face.now.plate s.face.now.welds in
    let parts : PartsInRange s.steel s.column.now s.face.now.beam s.face.now.plate s.face.now.welds = rw s.at_work.strengths (parts_in_range s.column.now s.face.now s.at_work.column s.at_work.face) in (
      check ∙ ap (λ y. governing_check counts (resistances_of y s.column.now s.face.now.beam s.face.now.plate s.face.now.welds)) s.at_work.strengths,
      omega (arith, ap force_of check, governing_le_bearing counts resistances, bearing_le _ _ _ _ _ parts),
    )
