-- `put_part` meets its contract: the fields are put, and the levers after them. Assumes nothing.
use Rattle.buffers.proofs.Writers.{puts_both}
use Rattle.jointfile.proofs.put_part.Goals as goal

pub returns : goal.returns
returns c = puts_both c.put_numbers.ensures c.put_numbers-2.ensures
