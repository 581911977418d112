-- `strength::thickness_limit` meets its contract: the product is the definition's, and the bounds required keep it within its width.
-- Assumes nothing.
use Rattle.arithmetic.proofs.Bounds.{exactly, ◌⊗◌, fits}
use Rattle.strength.proofs.thickness_limit.Goals as goal

pub overflow_mul-result-2 : goal.overflow_mul-result-2
overflow_mul-result-2 c = fits (exactly 10000 ⊗ c.requires.0 ⊗ c.requires.0) tt

pub overflow_mul-result-3 : goal.overflow_mul-result-3
overflow_mul-result-3 c = fits (exactly 10000 ⊗ c.requires.0 ⊗ c.requires.0 ⊗ c.requires.1) tt
