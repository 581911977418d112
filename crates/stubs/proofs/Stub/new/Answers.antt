-- `Stub::new` meets its contract: the products fit, since its parts are bounded. Assumes nothing.
use Rattle.arithmetic.proofs.Bounds.{◌⊗◌, fits}
use Rattle.stubs.proofs.Stub.new.Goals as goal

pub overflow_mul-result : goal.overflow_mul-result
overflow_mul-result c = rw c.from-t.ensures (fits (c.requires.thickness ⊗ c.requires.thickness) tt)

pub overflow_mul-result-2 : goal.overflow_mul-result-2
overflow_mul-result-2 c = rw c.from-t.ensures (fits (c.requires.thickness ⊗ c.requires.thickness ⊗ c.requires.strength) tt)
