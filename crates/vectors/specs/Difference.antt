-- What comparing an answer with what it should be comes to: the first number that differs. Assumes nothing.
use Rattle.std.specs.Prelude.{ℕ, suc, cond, List, [], ◌∷◌, eqb, length, Result, Ok, Err}
use Rattle.vectors.specs.declared.compare.Difference.{Difference}
use Rattle.vectors.specs.declared.compare.Difference.TheVariants.{Item, Unreadable}

-- of two lists of one length, whose first places have the number `item`
unfoldable pub first_difference : (item : ℕ) (are should : List ℕ) → Result Unit Difference
first_difference item [] should = Ok tt
first_difference item (x ∷ xs) [] = Ok tt
first_difference item (x ∷ xs) (y ∷ ys) = cond (eqb x y) (first_difference (suc item) xs ys) (Err (Item item x y))

-- items count from 1; lists of different lengths aren't compared
unfoldable pub compared : (are should : List ℕ) → Result Unit Difference
unfolding first_difference
compared are should = cond (eqb (length are) (length should)) (first_difference 1 are should) (Err Unreadable)
