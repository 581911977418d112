-- `pair_bearing` meets its contract: the products fit. Assumes nothing.
use Rattle.arithmetic.proofs.Bounds.{◌⊗◌, fits}
use Rattle.verdicts.proofs.pair_bearing.Goals as goal

pub overflow_mul-result : goal.overflow_mul-result
overflow_mul-result c = rw c.from.ensures (fits (c.requires.diameter ⊗ c.requires.thickness) tt)

pub overflow_mul-result-2 : goal.overflow_mul-result-2
overflow_mul-result-2 c = rw c.from.ensures (fits (c.requires.diameter ⊗ c.requires.thickness ⊗ c.requires.strength) tt)
