-- `run::put_numbers` meets its contract: the loop's head is `PutsHead`, and a number that was put carries it on. Assumes nothing.
use Rattle.numbers.proofs.Puts.{puts_head_none, puts_room, puts_more, puts_done}
use Rattle.numbers.proofs.run.put_numbers.Goals as goal

pub returns : goal.returns
returns c = puts_done c.loop-value.invariant c.loop-value-test.false

pub loop-value-init : goal.loop-value-init
loop-value-init c = puts_head_none _ _ c.requires

pub put_number-requires : goal.put_number-requires
put_number-requires c = puts_room c.loop-value.invariant c.loop-value-test.true

pub loop-value-preserved : goal.loop-value-preserved
loop-value-preserved c = puts_more c.loop-value.invariant c.loop-value-test.true c.put_number.ensures
