-- What is made of a signed number by cases, as of N: from its size and the machine's test of its sign. Assumes nothing.
use Prim.Native.Nat.{ℕ, suc, zero-le}
use mathlib.Core.Path.{◌≡◌}
use mathlib.Core.Bool.{cond}
use borrow.Author.Tests.{le-ltb}
use lib.IntN.{ℤ, pos, negsuc, nat_abs}
use lib.Signed.{lt_z}

pub by_sign : {A : Type 0} (f : ℤ → A) (above below : ℕ → A) → ((n : ℕ) → f (pos n) ≡ above n) → ((n : ℕ) → f (negsuc n) ≡ below (suc n))
    → (z : ℤ) → f z ≡ cond (lt_z z (pos 0)) (below (nat_abs z)) (above (nat_abs z))
by_sign f above below is_above is_below (pos n) = simp (le-ltb n 0 zero-le) (is_above n)
by_sign f above below is_above is_below (negsuc n) = is_below n
