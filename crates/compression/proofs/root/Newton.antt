-- Newton's steps for a square root, on plain numbers: a step from any number above 0 isn't below the root, since the mean of two numbers
-- isn't below the root of their product; and a number between the two bounds is the root. Assumes nothing.
use mathlib.Core.Path.{◌≡◌}
use Prim.Native.Nat.{ℕ, zero, suc, ◌+◌, ◌*◌, ◌/◌, ◌^◌, ◌≤◌, ◌<◌, zero-le}
use native.Mathlib.Nat.{lt_of_lt_of_le, lt_of_not-le, lt-suc_self, le_dest, div-lt_iff_lt-mul}
use native.Mathlib.Nat.{mul_comm, mul-add, mul-le-mul, mul-le-mul_left, mul-le-mul_right}
use native.Mathlib.Decide.{dec_le}
use native.Mathlib.Omega.{arith}
use Rattle.arithmetic.specs.Greatest.{Greatest}
use Rattle.arithmetic.proofs.Greatest.{only_one, is_greatest}
use Rattle.compression.specs.Root.{square_root, Guess}

-- where a ≤ m, b is at most m and as much more as a is less
mean-from : (a d b : ℕ) → b ≤ a + d + d → a * b ≤ (a + d) * (a + d)
mean-from a d b h =
    let product : a * b ≤ a * (a + d + d) = mul-le-mul_left a h in
    let parts : a * (a + d + d) ≡ a * (a + d) + a * d = mul-add a (a + d) d in
    let square : (a + d) * (a + d) ≡ (a + d) * a + (a + d) * d = mul-add (a + d) a d in
    let wider : a * d ≤ (a + d) * d = mul-le-mul_right d (omega arith) in
    let turned : a * (a + d) ≡ (a + d) * a = mul_comm a (a + d) in
    omega arith

mean : (a b m : ℕ) → a + b ≤ m + m → a * b ≤ m * m
mean a b m h = either (dec_le a m)
  where
    at : (c e : ℕ) → c + e ≤ m + m → c ≤ m → c * e ≤ m * m
    at c e k p =
        let d = (le_dest p).0 in
        let sum : c + d ≡ m = (le_dest p).1 in
        rw (← sum) (mean-from c d e (omega arith))

    either : Dec (a ≤ m) → a * b ≤ m * m
    either (yes p) = at a b h p
    either (no f) = rw (mul_comm a b) (at b a (omega arith) (omega (arith, lt_of_not-le f)))

-- the guess after a step, and one more, squared
pub step-above : (x r : ℕ) → 0 < r → x < ((r + x / r) / 2 + 1) * ((r + x / r) / 2 + 1)
step-above x r p =
    let below : x < suc (x / r) * r = (div-lt_iff_lt-mul p).0 (lt-suc_self (x / r)) in
    lt_of_lt_of_le below (mean (suc (x / r)) r ((r + x / r) / 2 + 1) (omega arith))

-- a number whose square is above another is above 0
pub positive : {x r : ℕ} → x < r * r → 0 < r
positive {r = zero} h = absurd (omega arith)
positive {r = suc r} h = omega arith

-- and the other's quotient by it is below it
pub quotient-lt : {x r : ℕ} → x < r * r → x / r < r
quotient-lt h = (div-lt_iff_lt-mul (positive h)).1 h

pub next-guess : {x r : ℕ} → Guess x r → x < r * r → Guess x ((r + x / r) / 2)
next-guess {x} {r} g h = record { above = step-above x r (positive h); small = omega (arith, g.small, quotient-lt h) }

module _ (x : ℕ) (small : x < 2 ^ 64) where
  pub root-greatest : Greatest (λ (r : ℕ). r * r ≤ x) (square_root x)
  unfolding square_root
  root-greatest = is_greatest (λ (r : ℕ). r * r) x 32 (λ v w h. mul-le-mul h h) zero-le small

  -- only the root has its square at most x, and the next square above
  pub is-root : (r : ℕ) → r * r ≤ x → x < (r + 1) * (r + 1) → r ≡ square_root x
  is-root r h k =
      only_one {Passes = λ (v : ℕ). v * v ≤ x} (record { passes = h; greatest = λ v p. no_more v p (dec_le v r) }) root-greatest
    where
      no_more : (v : ℕ) → v * v ≤ x → Dec (v ≤ r) → v ≤ r
      no_more v p (yes q) = q
      no_more v p (no f) = let wide : r + 1 ≤ v = omega (arith, lt_of_not-le f) in absurd (omega (arith, mul-le-mul wide wide))
