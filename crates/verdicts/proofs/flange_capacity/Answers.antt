-- `flange_capacity` meets its contract: the products fit. Assumes nothing.
use Rattle.arithmetic.proofs.Bounds.{◌⊗◌, fits}
use Rattle.verdicts.proofs.flange_capacity.Goals as goal

pub overflow_mul-result : goal.overflow_mul-result
overflow_mul-result c = rw c.from.ensures (fits (c.requires.0 ⊗ c.requires.1.flange) tt)

pub overflow_mul-result-2 : goal.overflow_mul-result-2
overflow_mul-result-2 c = rw (c.from.ensures, c.from-2.ensures) (fits (c.requires.0 ⊗ c.requires.1.flange ⊗ c.requires.1.width) tt)
