-- What each turn of a loop keeps, and why the loop or the recursion ends.
use Rattle.compression.specs.Root.{Guess}
use Rattle.compression.proofs.root.square_root.Given as goal

abbrev pub invariant-loop-r : goal.invariant-loop-r
invariant-loop-r l = Guess l.x l.r

abbrev pub decreases-loop-r : goal.decreases-loop-r
decreases-loop-r l = l.r
