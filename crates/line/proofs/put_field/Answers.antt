-- `put_field` meets its contract: of a refusal that isn't 10 no field is told. Assumes nothing.
use Rattle.items.specs.Items.{spaced}
use Rattle.line.proofs.Lines.{field_none}
use Rattle.line.proofs.put_field.Goals as goal

pub returns-in_default : goal.returns-in_default
unfolding spaced
returns-in_default g c = rw (field_none c.args.refusal c.in_default.not-OutOfRange) (g.met.S.Sink.takes_none c.args.sink.now)
