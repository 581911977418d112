-- What each turn of the loop keeps.
use Rattle.items.specs.Items.{letter}
use Rattle.items.proofs.Items.{ItemsHead}
use Rattle.items.proofs.put_letters.Given as goal

abbrev pub invariant-loop-letter : goal.invariant-loop-letter
invariant-loop-letter g l = ItemsHead g.S.Sink.takes g.S.Sink.has_room letter l.letters l.initial.sink l.letter-index l.sink
