-- What each turn of the loop keeps.
use Rattle.items.specs.Digits.{decimal}
use Rattle.items.proofs.Items.{ItemsHead}
use Rattle.items.proofs.put_numbers.Given as goal

abbrev pub invariant-loop-number : goal.invariant-loop-number
invariant-loop-number g l = ItemsHead g.S.Sink.takes g.S.Sink.has_room decimal l.numbers l.initial.sink l.number-index l.sink
