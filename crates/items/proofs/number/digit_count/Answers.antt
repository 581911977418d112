-- `number::digit_count` meets its contract: one more than the power of ten that the number reaches. Assumes nothing.
use Rattle.items.proofs.Numerals.{count_reached}
use Rattle.items.proofs.number.digit_count.Goals as goal

pub returns : goal.returns
returns c =
    let reached = c.ilog10.ensures in
    count_reached c.ilog10.result c.args.n c.ranges.n.fits (rw c.max.ensures at reached.power_le) (rw c.max.ensures at reached.next_power_gt)
