-- `put_face` meets its contract: of the only face nothing is told. Assumes nothing.
use Rattle.items.specs.Items.{spaced}
use Rattle.line.proofs.put_face.Goals as goal

pub returns-in-Only : goal.returns-in-Only
unfolding spaced
returns-in-Only g c = rw c.in-Only.is (g.met.S.Sink.takes_none c.args.sink.now)
