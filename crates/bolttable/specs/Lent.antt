-- A table whose places are lent, as a table. Assumes nothing.
use Rattle.bolttable.specs.declared.BoltTable.{BoltTable}
use Rattle.bolttable.specs.declared.LentTable.{LentTable}

abbrev pub table_of : LentTable → BoltTable
table_of lent = record { count = lent.count; diameters = lent.diameters.now; areas = lent.areas.now }
