-- The first guess: a step from 2 to the power of half of x's length in bits, rounded down. A step from any number above 0 isn't below the
-- root, and this one fits half a word: the power is at most 2 ^ 32, and the quotient below that. Assumes nothing.
use mathlib.Core.Path.{◌≡◌, ◌∙◌}
use Prim.Native.Nat.{ℕ, ◌+◌, ◌-◌, ◌*◌, ◌/◌, ◌%◌, ◌^◌, ◌≤◌, ◌<◌}
use native.Mathlib.Nat.{lt_of_lt_of_le, one-mul}
use native.Mathlib.Omega.{arith}
use lib.Dec.{lit<}
use lib.Pow.{pow_pos, pow_mono, shl_exact, shr_lt}
use lib.Count.{count_leading_zeros, leading_length}
use Rattle.compression.specs.Root.{Guess}
use Rattle.compression.proofs.root.Newton.{step-above}

-- x's length in bits, and half of it, rounded down
abbrev bits : ℕ → ℕ
bits x = 64 - count_leading_zeros 64 x

abbrev half : ℕ → ℕ
half x = bits x / 2

-- 1 shifted by half is the power: no bit is lost
pub shifted : (x : ℕ) → (1 * 2 ^ half x) % 2 ^ 64 ≡ 2 ^ half x
shifted x = shl_exact {a = 1} 1 (half x) 64 (lit< tt) (omega arith) ∙ one-mul (2 ^ half x)

pub power_le : (x : ℕ) → 2 ^ half x ≤ 2 ^ 32
power_le x = pow_mono {i = half x} {j = 32} (omega arith)

module _ (x : ℕ) (small : x < 2 ^ 64) where
  -- the quotient has the other half of x's bits, at most 32
  pub upper_lt : x / 2 ^ half x < 2 ^ 32
  upper_lt =
      let length = leading_length 64 x small in
      let halves : length.0 ≡ bits x - half x + half x = omega (arith, length.1) in
      lt_of_lt_of_le (shr_lt (bits x - half x) (half x) (rw halves at length.2)) (pow_mono {i = bits x - half x} {j = 32} (omega arith))

  pub stepped : Guess x ((2 ^ half x + x / 2 ^ half x) / 2)
  stepped = record { above = step-above x (2 ^ half x) (pow_pos (half x)); small = omega (arith, power_le x, upper_lt) }
