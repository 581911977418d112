-- `number::put_number` meets its contract: the loop's head is `PutHead`, and the last group ends it. Assumes nothing.
use Rattle.numbers.proofs.Puts.{put_none, put_room, put_more, put_last}
use Rattle.numbers.proofs.number.put_number.Goals as goal

pub loop-left-init : goal.loop-left-init
loop-left-init c = put_none _ _ c.ranges.x.fits c.requires

pub put-requires : goal.put-requires
put-requires c = put_room c.loop-left.invariant

pub loop-left-preserved : goal.loop-left-preserved
loop-left-preserved c = put_more c.loop-left.invariant c.loop-left-test.true c.put.ensures

pub put-requires-2 : goal.put-requires-2
put-requires-2 c = put_room c.loop-left.invariant

pub returns : goal.returns
returns c = put_last c.loop-left.invariant c.loop-left-test.false c.put-2.ensures
