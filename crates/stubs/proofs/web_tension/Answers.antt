-- `web_tension` meets its contract: the product fits. Assumes nothing.
use Rattle.arithmetic.proofs.Bounds.{exactly, ◌⊗◌, ◌⊕◌, fits}
use Rattle.stubs.proofs.web_tension.Goals as goal

pub overflow_mul-result-2 : goal.overflow_mul-result-2
overflow_mul-result-2 c = fits ((c.requires.length_most ⊕ exactly 100 ⊗ c.requires.rise) ⊗ c.requires.web_most) tt
