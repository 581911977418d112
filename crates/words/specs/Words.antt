-- A joint as words: its fields in file order, all eight levers of each face, N by its two's complement in 32 bits (rule 13.3).
-- Assumes nothing.
use Rattle.std.specs.Prelude.{ℕ, ◌+◌, ◌-◌, List, ◌++◌, cond, ltb, ℤ, pos, negsuc, get_or, set, take, drop}
use Rattle.joint.specs.declared.Bolts.{Bolts}
use Rattle.joint.specs.declared.Column.{Column}
use Rattle.joint.specs.declared.Face.{Face}
use Rattle.joint.specs.declared.Joint.{Joint}
use Rattle.fields.specs.Fields.{field_count, own_count, stored_axial, joint_of, fields_of, own_of}

-- how many words the fields with the first face's eight levers are
abbrev pub first_word_count : ℕ
first_word_count = field_count + 8

-- how many a joint is: with those that a second face has of its own, and its eight levers
abbrev pub joint_word_count : ℕ
joint_word_count = first_word_count + (own_count + 8)

-- ---- the joint of words

-- so many words from a place on
abbrev pub words_from : (from count : ℕ) → List ℕ → List ℕ
words_from from count words = take count (drop from words)

-- the N that a word stands for. `negsuc n` is the integer -n - 1.
unfoldable pub axial_of_word : ℕ → ℤ
axial_of_word word = cond (ltb word 2147483648) (pos word) (negsuc (4294967295 - word))

-- Fields as the file has them, from their words, of which one is N's: each is its word, and N is stored as the file stores it.
unfoldable pub fields_of_words : (axial : ℕ) → List ℕ → List ℕ
fields_of_words axial words = set words axial (stored_axial (axial_of_word (get_or words axial 0)))

-- fields 1 to 30, and those of a second face's own, of which N, field 27, is the eighteenth
abbrev pub first_fields_of_words : List ℕ → List ℕ
first_fields_of_words words = fields_of_words 26 (words_from 0 field_count words)

abbrev pub own_fields_of_words : List ℕ → List ℕ
own_fields_of_words words = fields_of_words 17 (words_from first_word_count own_count words)

-- the joint of its words
abbrev pub joint_of_words : List ℕ → Joint
joint_of_words words =
    joint_of (first_fields_of_words words) (words_from field_count 8 words)
    (own_fields_of_words words) (words_from (first_word_count + own_count) 8 words)

-- ---- the words of a joint

-- N as a word: itself, or 2^32 more when negative
unfoldable pub word_of_axial : ℤ → ℕ
word_of_axial (pos n) = n
word_of_axial (negsuc n) = 4294967295 - n

-- the words before a face's levers: the fields of the file, with N as a word
unfoldable pub head_of : Column → Bolts → Face → List ℕ
head_of column bolts face = set (fields_of column bolts face) 26 (word_of_axial face.loads.axial)

-- the words of a joint: the fields and the first face's levers, and what the second face has of its own and its levers
abbrev pub words_of : Joint → List ℕ
words_of joint =
    let column = joint.column in
    let bolts = joint.bolts in
    (head_of column bolts joint.face ++ joint.face.levers) ++ (own_of (head_of column bolts joint.other) ++ joint.other.levers)
