-- What each turn of a loop keeps, and why the loop or the recursion ends.
use Rattle.numbers.proofs.Puts.{PutHead}
use Rattle.numbers.proofs.number.put_number.Given as goal

abbrev pub invariant-loop-left : goal.invariant-loop-left
invariant-loop-left l = PutHead l.initial.writer l.x l.writer l.left

abbrev pub decreases-loop-left : goal.decreases-loop-left
decreases-loop-left l = l.left
