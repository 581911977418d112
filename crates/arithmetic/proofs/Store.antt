-- A store of a number that is small enough keeps the numbers of a list small enough. By recursion to the place. Assumes nothing.
use Prim.Native.Nat.{ℕ, zero, suc, ◌≤◌}
use mathlib.Core.List.{List, [], ◌∷◌}
use lib.ListN.{get_or, set}

pub store_keeps : (most : ℕ) (xs : List ℕ) (place value k : ℕ) → get_or xs k 0 ≤ most → value ≤ most
    → get_or (set xs place value) k 0 ≤ most
store_keeps most [] place value k small h = small
store_keeps most (x ∷ xs) zero value zero small h = h
store_keeps most (x ∷ xs) zero value (suc k) small h = small
store_keeps most (x ∷ xs) (suc place) value zero small h = small
store_keeps most (x ∷ xs) (suc place) value (suc k) small h = store_keeps most xs place value k small h
