-- What a test of two numbers can come to, by the computed test's two cases. Assumes nothing.
use Prim.Native.Nat.{ℕ, ◌≤◌, ◌<◌}
use mathlib.Core.Path.{◌≡◌, refl}
use mathlib.Core.Bool.{Bool, true, false}
use mathlib.Core.Logic.{◌⊎◌, inl, inr}
use borrow.Author.Tests.{ltb-true, ltb-false}
use lib.Dec.{ltb}

-- one is below the other, or not
pub split : (a b : ℕ) → (a < b) ⊎ (b ≤ a)
split a b = go (ltb a b) refl
  where
    go : (t : Bool) → ltb a b ≡ t → (a < b) ⊎ (b ≤ a)
    go true e = inl (ltb-true a b e)
    go false e = inr (ltb-false a b e)
