-- `put_numbers` meets its contract: the items of the numbers passed are taken, and one more is joined to them. Assumes nothing.
use Rattle.items.specs.Items.{spaced}
use Rattle.items.proofs.Items.{items_left, items_next, items_all}
use Rattle.items.proofs.put_numbers.Goals as goal

pub loop-number-init : goal.loop-number-init
unfolding spaced
loop-number-init g c = record { taken = g.met.S.Sink.takes_none c.args.sink.now; room = c.requires }

pub byte-requires : goal.byte-requires
byte-requires g c = g.met.S.Sink.room_first _ _ _ (items_left c.loop-number.invariant c.loop-number-test.true)

pub number-requires : goal.number-requires
number-requires g c =
    let sink = g.met.S.Sink in
    sink.room_first _ _ _ (sink.room_after _ _ _ _ c.byte.ensures (items_left c.loop-number.invariant c.loop-number-test.true))

pub loop-number-preserved : goal.loop-number-preserved
loop-number-preserved g c =
    let sink = g.met.S.Sink in
    items_next c.loop-number.invariant sink.takes_both sink.room_after c.loop-number-test.true c.byte.ensures c.number.ensures

pub returns : goal.returns
returns g c = items_all c.loop-number.invariant c.loop-number-test.false
