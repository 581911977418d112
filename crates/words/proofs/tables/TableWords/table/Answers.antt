-- `TableWords::table` meets its contract: it is the definition, part by part. Assumes nothing.
use Rattle.words.specs.Tables.{table_of_words}
use Rattle.words.proofs.Copies.{part_is}
use Rattle.words.proofs.tables.TableWords.table.Goals as goal

pub returns : goal.returns
unfolding table_of_words
returns c = rw (part_is _ _ _ _ c.try_into.ensures.1 c.unwrap.ensures, part_is _ _ _ _ c.try_into-2.ensures.1 c.unwrap-2.ensures)
