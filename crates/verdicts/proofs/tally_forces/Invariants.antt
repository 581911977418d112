-- What each turn of the loop keeps.
use Rattle.std.proofs.Common.{length}
use Rattle.verdicts.proofs.Tallying.{Counted}
use Rattle.verdicts.proofs.tally_forces.Given as goal

abbrev pub invariant-loop-force : goal.invariant-loop-force
invariant-loop-force l = Counted l.levers l.forces l.sum l.moment l.pulling (length l.yielded)
