-- A bolt table as words (rule 13.6): its count, its twelve diameters and its twelve areas. Assumes nothing.
use Rattle.std.specs.Prelude.{ℕ, ◌+◌, List, ◌∷◌, ◌++◌, get_or}
use Rattle.bolttable.specs.Loading.{size_counts}
use Rattle.bolttable.specs.declared.BoltTable.{BoltTable}
use Rattle.words.specs.Words.{words_from}

-- where the areas begin, and how many words a table is
abbrev pub areas_from : ℕ
areas_from = 1 + size_counts.high

abbrev pub table_word_count : ℕ
table_word_count = areas_from + size_counts.high

-- the table of its words
unfoldable pub table_of_words : List ℕ → BoltTable
table_of_words words = record {
  count = get_or words 0 0;
  diameters = words_from 1 size_counts.high words;
  areas = words_from areas_from size_counts.high words;
}

-- the words of a table
abbrev pub words_of_table : BoltTable → List ℕ
words_of_table table = table.count ∷ (table.diameters ++ table.areas)
