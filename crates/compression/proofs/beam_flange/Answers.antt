-- `compression::beam_flange` meets its contract: the ranges keep its products within their width. Assumes nothing.
use Rattle.arithmetic.proofs.Bounds.{exactly, ◌⊗◌, fits}
use Rattle.compression.proofs.beam_flange.Goals as goal

pub overflow_mul-result-2 : goal.overflow_mul-result-2
overflow_mul-result-2 c = let r = c.requires in rw c.from.ensures (fits (exactly 7 ⊗ r.0 ⊗ r.1.flange) tt)

pub overflow_mul-result-3 : goal.overflow_mul-result-3
overflow_mul-result-3 c = let r = c.requires in rw (c.from.ensures, c.from-2.ensures) (fits (exactly 7 ⊗ r.0 ⊗ r.1.flange ⊗ r.1.width) tt)
