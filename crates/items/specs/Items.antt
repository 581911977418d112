-- The items of a line (rule 12.1): what one is, and the space before each. Assumes nothing.
use Rattle.std.specs.Prelude.{ℕ, List, [], ◌∷◌, ◌++◌}

-- an item of a line, as text
abbrev pub Item : Type 0
Item = List ℕ

abbrev pub letter : ℕ → Item
letter byte = byte ∷ []

-- one space before each item after the first
unfoldable pub spaced : List Item → List ℕ
spaced [] = []
spaced (item ∷ items) = 32 ∷ (item ++ spaced items)
