-- `pairs_total` meets its contract: a pair counts at most its shear, so the products fit. Assumes nothing.
use native.Mathlib.Omega.{arith}
use Rattle.arithmetic.specs.Range.{Within, ◌to◌}
use Rattle.arithmetic.proofs.Bounds.{at_most, ◌⊗◌, ◌⊕◌, fits}
use Rattle.strength.specs.InRange.{most_pair_shear}
use Rattle.verdicts.proofs.pairs_total.Goals as goal
use Rattle.verdicts.proofs.pairs_total.Goals.{After-min, After-min-2}

-- what a pair counts in a row with a force, and in one without
pulling : (c : After-min) → Within (0 to most_pair_shear) c.min.result
pulling c =
    at_most (omega (arith, c.min.ensures, c.requires.shear.high))

idle : (c : After-min-2) → Within (0 to most_pair_shear) c.min-2.result
idle c =
    at_most (omega (arith, c.min-2.ensures, c.requires.shear.high))

pub overflow_mul-result : goal.overflow_mul-result
overflow_mul-result c =
    let here = goal.at.overflow_mul-result c in
    fits (c.requires.pulling_rows ⊗ (pulling here.After-min)) tt

pub overflow_mul-result-2 : goal.overflow_mul-result-2
overflow_mul-result-2 c =
    let here = goal.at.overflow_mul-result-2 c in
    fits (c.requires.idle_rows ⊗ (idle here.After-min-2)) tt

pub overflow_add-result : goal.overflow_add-result
overflow_add-result c =
    let here = goal.at.overflow_add-result c in
    let p = c.requires in
    fits (p.pulling_rows ⊗ (pulling here.After-min) ⊕ p.idle_rows ⊗ (idle here.After-min-2)) tt
