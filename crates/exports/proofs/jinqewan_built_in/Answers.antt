-- `jinqewan_built_in` meets its contract: the slice is too short for a table, or the table built in is its front. Assumes nothing.
use mathlib.Core.Path.{refl, ap, ◌∙◌}
use borrow.Author.Tests.{lt-leb, le-leb}
use Rattle.bolttable.specs.declared.BoltTable.{BoltTable}
use Rattle.buffers.specs.Put.{at_front}
use Rattle.words.specs.Tables.{table_word_count, words_of_table}
use Rattle.exports.proofs.Answers.{too_short, taken}
use Rattle.exports.proofs.jinqewan_built_in.Goals as goal

pub returns-then-table-lt-TABLE_WORDS : goal.returns-then-table-lt-TABLE_WORDS
returns-then-table-lt-TABLE_WORDS c = too_short _ _ _ _ _ (lt-leb table_word_count _ c.if-table-lt-TABLE_WORDS.true)

pub returns : goal.returns
returns c =
    let table = c.args.table.now in
    taken _ _ _ _ _ (le-leb table_word_count _ c.if-table-lt-TABLE_WORDS.false) refl
    (c.put_table.ensures ∙ ap (λ (t : BoltTable). at_front (words_of_table t) table) c.built_in.ensures)
