-- `rest` meets its contract: the place that `read` answers lies in the bytes, and what follows it is what is left. Assumes nothing.
use Rattle.jointfile.proofs.Places.{read_left}
use Rattle.jointfile.proofs.rest.Goals as goal

pub returns-in-Ok-clause-value : goal.returns-in-Ok-clause-value
returns-in-Ok-clause-value c = read_left _ c.args.bytes.now c.in-Ok.ensures
