-- The answer is that of what is left of both. Assumes nothing.
use Rattle.vectors.proofs.Differences.{Left}
use Rattle.vectors.proofs.compare.compare.Given as goal

abbrev pub invariant-loop-place : goal.invariant-loop-place
invariant-loop-place l =
    let left = l.place-iterator in
    Left l.are l.should left.count left.iter.a.rest.now left.iter.b.rest.now
