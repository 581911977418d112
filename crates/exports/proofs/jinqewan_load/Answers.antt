-- `jinqewan_load` meets its contract: a slice is too short, the table isn't taken and the one in force stays, or it is put over it.
-- Assumes nothing.
use Rattle.std.proofs.Common.{◌≡◌, ◌≤◌, length, inl, inr, sym, ap, ◌∙◌}
use Rattle.bolttable.specs.Loading.{Loading, TableCheck, table_check, loaded, loaded_by}
use Rattle.buffers.specs.Put.{at_front}
use Rattle.bolttable.specs.declared.BoltTable.{BoltTable}
use Rattle.words.specs.Tables.{table_word_count, words_of_table, table_of_words}
use Rattle.exports.proofs.Refusals.{table_some}
use Rattle.exports.proofs.Answers.{two_short, enough_both, too_short, taken, refused}
use Rattle.exports.proofs.jinqewan_load.Goals as goal

loading : (before table : BoltTable) {check : TableCheck} → check ≡ table_check table → loaded_by check before table ≡ loaded before table
unfolding loaded
loading before table is = ap (λ (check : TableCheck). loaded_by check before table) is

pub returns-in_default : goal.returns-in_default
returns-in_default c = too_short _ _ _ _ _ (two_short (inl c.in_default.ensures))

pub returns-then-in_force-lt-TABLE_WORDS : goal.returns-then-in_force-lt-TABLE_WORDS
returns-then-in_force-lt-TABLE_WORDS c =
    rw (← c.in-Some.ensures)
    (too_short _ _ _ _ _ (two_short (inr (c.in-Some.table.enough, c.if-in_force-lt-TABLE_WORDS.true))))

pub returns-in-Ok : goal.returns-in-Ok
returns-in-Ok c =
    let in_force = c.args.in_force.now in
    let enough : table_word_count ≤ length c.args.table.now = rw c.in-Some.ensures at c.in-Some.table.enough in
    let table = ap table_of_words c.in-Some.ensures in
    let load = loading (table_of_words in_force) _ (c.in-Ok.ensures ∙ ap table_check (c.lent.ensures ∙ table)) in
    taken _ 0 0 _ _ (enough_both enough c.if-in_force-lt-TABLE_WORDS.false) (sym (ap (λ (l : Loading). l.refusal) load))
    (c.put.ensures ∙ ap (λ (t : BoltTable). at_front (words_of_table t) in_force) table
    ∙ ap (λ (l : Loading). at_front (words_of_table l.table) in_force) load)

pub returns-in-Err : goal.returns-in-Err
returns-in-Err c =
    let load = loading (table_of_words c.args.in_force.now) _ (c.in-Err.ensures ∙ ap table_check c.lent.ensures) in
    rw (← c.in-Some.ensures)
    (refused _ _ _ (enough_both c.in-Some.table.enough c.if-in_force-lt-TABLE_WORDS.false) c.number.ensures
    (ap (λ (l : Loading). l.refusal) load) (table_some c.in-Err.not_taken))
