-- `put_letters` meets its contract as `put_numbers` does: a letter's item is its space and its byte. Assumes nothing.
use Rattle.items.specs.Items.{spaced}
use Rattle.items.proofs.Items.{items_left, items_next, items_all}
use Rattle.items.proofs.put_letters.Goals as goal

pub loop-letter-init : goal.loop-letter-init
unfolding spaced
loop-letter-init g c = record { taken = g.met.S.Sink.takes_none c.args.sink.now; room = c.requires }

pub byte-requires : goal.byte-requires
byte-requires g c = g.met.S.Sink.room_first _ _ _ (items_left c.loop-letter.invariant c.loop-letter-test.true)

pub byte-requires-in-loop-letter : goal.byte-requires-in-loop-letter
byte-requires-in-loop-letter g c =
    let sink = g.met.S.Sink in
    sink.room_first _ _ _ (sink.room_after _ _ _ _ c.byte.ensures (items_left c.loop-letter.invariant c.loop-letter-test.true))

pub loop-letter-preserved : goal.loop-letter-preserved
loop-letter-preserved g c =
    let sink = g.met.S.Sink in
    items_next c.loop-letter.invariant sink.takes_both sink.room_after c.loop-letter-test.true c.byte.ensures c.byte-in-loop-letter.ensures

pub returns : goal.returns
returns g c = items_all c.loop-letter.invariant c.loop-letter-test.false
