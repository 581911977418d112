-- What each turn of the loop keeps.
use Rattle.items.proofs.Digits.{DigitsHead}
use Rattle.items.proofs.number.put_number.Given as goal

abbrev pub invariant-loop-at : goal.invariant-loop-at
invariant-loop-at l = DigitsHead l.n l.digits l.at l.left
