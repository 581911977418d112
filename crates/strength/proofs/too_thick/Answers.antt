-- `strength::too_thick` meets its contract: the test is the definition's, and the bounds required keep the product within its width.
-- Assumes nothing.
use Rattle.arithmetic.proofs.Bounds.{exactly, at_most, ◌⊗◌, fits}
use Rattle.strength.proofs.too_thick.Goals as goal

pub overflow_mul-result-2 : goal.overflow_mul-result-2
overflow_mul-result-2 c = rw c.from-t.ensures (fits (exactly 361 ⊗ at_most c.requires.0 ⊗ at_most c.requires.0) tt)

pub overflow_mul-result-3 : goal.overflow_mul-result-3
overflow_mul-result-3 c = rw c.from-t.ensures (fits (exactly 361 ⊗ at_most c.requires.0 ⊗ at_most c.requires.0 ⊗ c.requires.1) tt)
