-- `put_faces` meets its contract: one line is taken, or two, one after the other. Assumes nothing.
use Rattle.line.proofs.Lines.{faces_parts, second_some, second_none}
use Rattle.line.proofs.put_faces.Goals as goal

pub put_result-requires : goal.put_result-requires
put_result-requires g c = let sink = g.met.S.Sink in sink.room_first _ _ _ (rw (faces_parts) at c.requires)

pub put_result-requires-in-Some : goal.put_result-requires-in-Some
put_result-requires-in-Some g c =
    let room = rw (faces_parts) at c.requires in
    let left = g.met.S.Sink.room_after _ _ _ _ c.put_result.ensures room in
    rw (second_some c.args.number c.args.other_rows _ c.in-Some.is) at left

pub returns-in-Some : goal.returns-in-Some
returns-in-Some g c =
    rw (
      faces_parts,
      second_some c.args.number c.args.other_rows _ c.in-Some.is,
    )
    (g.met.S.Sink.takes_both _ _ _ _ _ c.put_result.ensures c.put_result-in-Some.ensures)

pub returns-in_default : goal.returns-in_default
returns-in_default g c =
    rw (
      faces_parts,
      second_none c.args.number c.args.other_rows _ c.in_default.is,
    )
    (g.met.S.Sink.takes_both _ _ _ _ _ c.put_result.ensures (g.met.S.Sink.takes_none c.put_result.new.sink))
