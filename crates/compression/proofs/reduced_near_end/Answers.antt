-- `reduced_near_end` meets its contract: the product stays far below 64 bits. Assumes nothing.
use native.Mathlib.Omega.{arith}
use Rattle.arithmetic.proofs.Bounds.{exactly, at_most, ◌⊗◌, ◌⊕◌, fits}
use Rattle.compression.proofs.reduced_near_end.Goals as goal

pub overflow_mul-result-then-distance-clear-2 : goal.overflow_mul-result-then-distance-clear-2
overflow_mul-result-then-distance-clear-2 c =
    let (small, column) = c.requires in
    rw (c.from-clear.ensures, c.from-distance.ensures)
    (fits (at_most {n = 4294967295} (omega arith) ⊗ (exactly 10 ⊗ column.end_distance ⊕ exactly 7 ⊗ column.clear)) tt)
