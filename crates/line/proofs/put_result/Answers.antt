-- `put_result` meets its contract: the joint's number, the rows, the figures, the letters and the line feed are taken one after the other.
-- Assumes nothing.
use Rattle.line.proofs.Lines.{result_parts}
use Rattle.line.proofs.put_result.Goals as goal

pub number-requires : goal.number-requires
number-requires g c = let sink = g.met.S.Sink in sink.room_first _ _ _ (rw result_parts at c.requires)

pub put_rows-requires : goal.put_rows-requires
put_rows-requires g c = let sink = g.met.S.Sink in sink.room_first _ _ _ (sink.room_after _ _ _ _ c.number.ensures (rw result_parts at c.requires))

pub put_numbers-requires : goal.put_numbers-requires
put_numbers-requires g c = let sink = g.met.S.Sink in sink.room_first _ _ _ (sink.room_after _ _ _ _ c.put_rows.ensures (sink.room_after _ _ _ _ c.number.ensures (rw result_parts at c.requires)))

pub put_verdicts-requires : goal.put_verdicts-requires
put_verdicts-requires g c = let sink = g.met.S.Sink in sink.room_first _ _ _ (sink.room_after _ _ _ _ c.put_numbers.ensures (sink.room_after _ _ _ _ c.put_rows.ensures (sink.room_after _ _ _ _ c.number.ensures (rw result_parts at c.requires))))

pub byte-requires : goal.byte-requires
byte-requires g c = let sink = g.met.S.Sink in sink.room_after _ _ _ _ c.put_verdicts.ensures (sink.room_after _ _ _ _ c.put_numbers.ensures (sink.room_after _ _ _ _ c.put_rows.ensures (sink.room_after _ _ _ _ c.number.ensures (rw result_parts at c.requires))))

pub returns : goal.returns
returns g c = let sink = g.met.S.Sink in rw result_parts (sink.takes_both _ _ _ _ _ c.number.ensures (sink.takes_both _ _ _ _ _ c.put_rows.ensures (sink.takes_both _ _ _ _ _ c.put_numbers.ensures (sink.takes_both _ _ _ _ _ c.put_verdicts.ensures c.byte.ensures))))
