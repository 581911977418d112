-- What each turn of the loop keeps.
use Rattle.allocation.proofs.Counting.{CountedFrom}
use Rattle.allocation.proofs.count_groups.Given as goal

abbrev pub invariant-loop-last : goal.invariant-loop-last
invariant-loop-last l = CountedFrom l.limits l.row l.count l.above l.last l.lowered l.initial.sums l.sums
