-- `put_rows` meets its contract: the row count is taken, and then the forces. Assumes nothing.
use Rattle.std.proofs.Common.{refl}
use Rattle.line.proofs.Lines.{rows_parts}
use Rattle.line.proofs.put_rows.Goals as goal

pub put_numbers-requires : goal.put_numbers-requires
put_numbers-requires g c = let sink = g.met.S.Sink in sink.room_first _ _ _ (rw (rows_parts _ _ c.from.ensures refl) at c.requires)

pub put_numbers-requires-2 : goal.put_numbers-requires-2
put_numbers-requires-2 g c = let sink = g.met.S.Sink in sink.room_after _ _ _ _ c.put_numbers.ensures (rw (rows_parts _ _ c.from.ensures c.min.ensures) at c.requires)

pub returns : goal.returns
returns g c = let sink = g.met.S.Sink in rw (rows_parts _ _ c.from.ensures c.min.ensures) (sink.takes_both _ _ _ _ _ c.put_numbers.ensures c.put_numbers-2.ensures)
