-- What each turn of a loop keeps, and why the loop or the recursion ends.
use Rattle.numbers.proofs.Puts.{PutsHead}
use Rattle.numbers.proofs.run.put_numbers.Given as goal

abbrev pub invariant-loop-value : goal.invariant-loop-value
invariant-loop-value l = PutsHead l.initial.writer l.values l.writer l.value-index
