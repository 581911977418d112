-- `strength::bolt_strengths` meets its contract: the figures are the definition's, and an area of 32 bits and the greatest strengths bound
-- the products.
-- Assumes nothing.
use native.Mathlib.Omega.{arith}
use Rattle.arithmetic.specs.Range.{Within, ◌to◌}
use Rattle.arithmetic.proofs.Bounds.{exactly, at_most, ◌⊗◌, fits}
use Rattle.strength.proofs.Ranges.{tension_most, shear_most}
use Rattle.strength.proofs.bolt_strengths.Goals as goal
use Rattle.strength.proofs.bolt_strengths.Goals.{After-class_strengths-class}

area_most : (c : After-class_strengths-class) → Within (0 to 4294967295) c.from-pair.result
area_most c = at_most (omega arith)

pub overflow_mul-result : goal.overflow_mul-result
overflow_mul-result c =
    let here = (goal.at.overflow_mul-result c).After-class_strengths-class in
    rw c.class_strengths-class.ensures (fits (exactly 2 ⊗ area_most here ⊗ tension_most _) tt)

pub overflow_mul-result-2 : goal.overflow_mul-result-2
overflow_mul-result-2 c =
    let here = (goal.at.overflow_mul-result-2 c).After-class_strengths-class in
    rw c.class_strengths-class.ensures (fits (exactly 2 ⊗ area_most here ⊗ shear_most _) tt)
