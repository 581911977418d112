-- `TableWords::put` meets its contract: the words of the table of words are those words. Assumes nothing.
use Rattle.std.proofs.Common.{◌≡◌, ◌≤◌, List, ℕ, [], ◌∷◌, length, take, ap, arith, length-take-le}
use Rattle.std.proofs.Math.Seq.{take-add}
use Rattle.words.specs.Tables.{table_word_count, table_of_words, words_of_table}
use Rattle.words.proofs.Copies.{first_run}
use Rattle.words.proofs.tables.TableWords.put.Goals as goal

back : (words : List ℕ) → table_word_count ≤ length words → take table_word_count words ≡ words_of_table (table_of_words words)
unfolding table_of_words
back [] enough = absurd (omega arith)
back (count ∷ places) enough = ap (λ (both : List ℕ). count ∷ both) (take-add 12 12 places)

pub returns : goal.returns
returns c =
    let words = c.args.self.words.now in
    let size = length-take-le 25 words (omega (arith, c.args.self.enough)) in
    let run = first_run c.args.words.now {count = 25} c.copy_from_slice.ensures.after size (back words c.args.self.enough) in
    run.put
