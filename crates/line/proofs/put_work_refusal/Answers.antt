-- `put_work_refusal` meets its contract: the refusal's number, its field, its face and the line feed are taken one after the other.
-- Assumes nothing.
use Rattle.line.proofs.Lines.{work_parts}
use Rattle.line.proofs.put_work_refusal.Goals as goal

pub begin_refusal-requires : goal.begin_refusal-requires
begin_refusal-requires g c = let sink = g.met.S.Sink in sink.room_first _ _ _ (rw (work_parts c.args.number c.args.refused c.number.ensures) at c.requires)

pub put_field-requires : goal.put_field-requires
put_field-requires g c = let sink = g.met.S.Sink in sink.room_first _ _ _ (sink.room_after _ _ _ _ c.begin_refusal.ensures (rw (work_parts c.args.number c.args.refused c.number.ensures) at c.requires))

pub put_face-requires : goal.put_face-requires
put_face-requires g c = let sink = g.met.S.Sink in sink.room_first _ _ _ (sink.room_after _ _ _ _ c.put_field.ensures (sink.room_after _ _ _ _ c.begin_refusal.ensures (rw (work_parts c.args.number c.args.refused c.number.ensures) at c.requires)))

pub byte-requires : goal.byte-requires
byte-requires g c = let sink = g.met.S.Sink in sink.room_after _ _ _ _ c.put_face.ensures (sink.room_after _ _ _ _ c.put_field.ensures (sink.room_after _ _ _ _ c.begin_refusal.ensures (rw (work_parts c.args.number c.args.refused c.number.ensures) at c.requires)))

pub returns : goal.returns
returns g c = let sink = g.met.S.Sink in rw (work_parts c.args.number c.args.refused c.number.ensures) (sink.takes_both _ _ _ _ _ c.begin_refusal.ensures (sink.takes_both _ _ _ _ _ c.put_field.ensures (sink.takes_both _ _ _ _ _ c.put_face.ensures c.byte.ensures)))
