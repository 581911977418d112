-- `weld_capacity` meets its contract: the products fit. Assumes nothing.
use Rattle.arithmetic.proofs.Bounds.{exactly, ◌⊗◌, fits}
use Rattle.verdicts.proofs.weld_capacity.Goals as goal

pub overflow_mul-result-2 : goal.overflow_mul-result-2
overflow_mul-result-2 c = rw (c.from.ensures, c.from-2.ensures) (fits (exactly 14 ⊗ c.requires.leg_most ⊗ c.requires.length_most) tt)

pub overflow_mul-result-3 : goal.overflow_mul-result-3
overflow_mul-result-3 c = rw (c.from.ensures, c.from-2.ensures)
    (fits (exactly 14 ⊗ c.requires.leg_most ⊗ c.requires.length_most ⊗ c.requires.strength) tt)
