-- What each turn of a loop keeps, and why the loop or the recursion ends.
use Prim.Native.Nat.{◌-◌}
use lib.ListN.{drop}
use Rattle.numbers.proofs.Groups.{Head}
use Rattle.numbers.proofs.number.number_at.Given as goal

abbrev pub invariant-loop-at : goal.invariant-loop-at
invariant-loop-at l = Head (drop l.from l.bytes) (l.at - l.from) l.scale l.value
