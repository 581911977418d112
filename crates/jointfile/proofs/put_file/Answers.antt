-- `put_file` meets its contract: the two parts that are put one after the other are the file. Assumes nothing.
use mathlib.Core.Path.{sym}
use Rattle.std.proofs.Common.{rules}
use Rattle.buffers.proofs.Writers.{puts_both}
use Rattle.jointfile.proofs.IfRoom.{put_in_room}
use Rattle.jointfile.proofs.put_file.Goals as goal

pub returns : goal.returns
returns c =
    let lent = c.new-writer.ensures in
    put_in_room _ c.new-writer.result lent.as_lent lent.front (sym c.if-not-has_room.ensures) _ (puts_both c.put_part.ensures c.put_part-2.ensures) (search rules)
