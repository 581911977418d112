-- `count_groups` meets its contract: each turn counts one group more (the law `one_more`). Assumes nothing.
use mathlib.Core.Path.{◌≡◌}
use native.Mathlib.Omega.{arith}
use Rattle.allocation.proofs.Counting.{one_more}
use Rattle.allocation.proofs.count_groups.Goals as goal

pub loop-last-preserved : goal.loop-last-preserved
loop-last-preserved c =
    one_more _ _ _ _ c.requires _ (omega arith) _ _ _ _ _ _ (omega arith) (omega arith) (omega arith) c.loop-last.invariant c.min-lowered.ensures c.min.ensures

pub returns : goal.returns
returns c =
    let all : c.loop-last.last ≡ c.args.row = omega (arith, c.loop-last.invariant.from_row) in
    rw all at c.loop-last.invariant.counted
