-- `put_read_refusal` meets its contract: the line feed is taken after the refusal's number. Assumes nothing.
use Rattle.line.proofs.Lines.{read_parts}
use Rattle.line.proofs.put_read_refusal.Goals as goal

pub begin_refusal-requires : goal.begin_refusal-requires
begin_refusal-requires g c = let sink = g.met.S.Sink in sink.room_first _ _ _ (rw (read_parts _ _ c.number.ensures) at c.requires)

pub byte-requires : goal.byte-requires
byte-requires g c = let sink = g.met.S.Sink in sink.room_after _ _ _ _ c.begin_refusal.ensures (rw (read_parts _ _ c.number.ensures) at c.requires)

pub returns : goal.returns
returns g c = let sink = g.met.S.Sink in rw (read_parts _ _ c.number.ensures) (sink.takes_both _ _ _ _ _ c.begin_refusal.ensures c.byte.ensures)
