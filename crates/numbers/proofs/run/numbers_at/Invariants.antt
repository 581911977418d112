-- What each turn of a loop keeps, and why the loop or the recursion ends.
use Rattle.numbers.proofs.Runs.{RunHead}
use Rattle.numbers.proofs.run.numbers_at.Given as goal

abbrev pub invariant-loop-value : goal.invariant-loop-value
invariant-loop-value l = RunHead l.bytes l.from l.initial.values l.values l.at l.value-index
