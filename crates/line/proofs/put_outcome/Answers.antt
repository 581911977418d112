-- `put_outcome` meets its contract: the lines are those of the faces, or that of the refusal. Assumes nothing.
use Rattle.line.proofs.Lines.{worked_lines, refused_line}
use Rattle.line.proofs.put_outcome.Goals as goal

pub put_faces-requires : goal.put_faces-requires
put_faces-requires g c = rw (worked_lines c.args.number c.args.rows c.args.other_rows c.in-Ok.is) at c.requires

pub put_work_refusal-requires : goal.put_work_refusal-requires
put_work_refusal-requires g c = rw (refused_line c.args.number c.args.rows c.args.other_rows c.in-Err.is) at c.requires

pub returns-in-Ok : goal.returns-in-Ok
returns-in-Ok g c = rw (worked_lines c.args.number c.args.rows c.args.other_rows c.in-Ok.is) c.put_faces.ensures

pub returns-in-Err : goal.returns-in-Err
returns-in-Err g c = rw (refused_line c.args.number c.args.rows c.args.other_rows c.in-Err.is) c.put_work_refusal.ensures
