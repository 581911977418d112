-- `panel_passes` meets its contract: the totals are held against the shear that the column's strength gives. Assumes nothing.
use mathlib.Core.Path.{ap, ◌∙◌}
use mathlib.Core.Bool.{Bool, cond}
use native.Mathlib.Omega.{arith}
use Rattle.strength.proofs.Ranges.{steel_range}
use Rattle.compression.specs.Compression.{panel_shear}
use Rattle.panel.specs.Panel.{governing_total, panel_passes}
use Rattle.outcome.specs.Outcome.{Passes, Fails}
use Rattle.work.specs.Work.{panel_verdict}
use Rattle.work.proofs.panel_passes.Goals as goal

pub panel_shear-shear-requires : goal.panel_shear-shear-requires
panel_shear-shear-requires c =
    let column = c.requires.0 in
    (rw c.steel_strength-strength.ensures (steel_range _ _ column.grade (omega (arith, column.flange.high))), column)

pub returns : goal.returns
unfolding panel_verdict
returns c =
    let a = c.args in
    let shear = c.panel_shear-shear.ensures ∙ ap (λ y. panel_shear y a.column) c.steel_strength-strength.ensures in
    ap (λ (test : Bool). cond test Passes Fails)
    (c.panel_passes.ensures
    ∙ ap (λ s. panel_passes s (governing_total a.first_sum a.first) (governing_total a.second_sum a.second)) shear)
