-- `work` meets its contract: whatever the table, the area is one that a table can list. Assumes nothing.
use Rattle.bolttable.proofs.Areas.{area_in_range}
use Rattle.work.proofs.work.Goals as goal

pub work_with-requires : goal.work_with-requires
work_with-requires c = rw c.area_of.ensures (area_in_range _ _)
