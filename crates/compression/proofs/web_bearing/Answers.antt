-- `compression::web_bearing` meets its contract: the ranges keep its products within their width. Assumes nothing.
use Rattle.arithmetic.proofs.Bounds.{◌⊗◌, fits}
use Rattle.compression.proofs.web_bearing.Goals as goal

pub overflow_mul-result : goal.overflow_mul-result
overflow_mul-result c = let r = c.requires in rw c.from.ensures (fits (r.bearing_length ⊗ r.column.web) tt)

pub overflow_mul-result-2 : goal.overflow_mul-result-2
overflow_mul-result-2 c = let r = c.requires in rw c.from.ensures (fits (r.bearing_length ⊗ r.column.web ⊗ r.strength) tt)
