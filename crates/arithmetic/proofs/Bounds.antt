-- Bounds on sums, products and quotients, put together as the figure itself is: where x is within one range and y within another,
-- `x ⊗ y` bounds their product from both sides. `fits` then shows that a figure fits its width. Assumes nothing.
use mathlib.Core.Path.{◌∙◌, sym}
use Prim.Native.Nat.{ℕ, zero, suc, ◌+◌, ◌*◌, ◌/◌, ◌^◌, ◌≤◌, ◌<◌, zero-le}
use native.Mathlib.Nat.{le_refl, le_trans, le_of_eq, zero-lt-suc, mul-le-mul, mul-le-mul_right, le_of_mul-le-mul_right, mul_right_comm}
use native.Mathlib.Nat.{add-le-add, div-zero, div-mul-le_self, le-div_iff_mul-le}
use mathlib.Core.Bool.{Bool, true, false, cond, ◌&&◌}
use lib.Dec.{T, leb, ltb, leb→le}
use mir.Syntax.{Width}
use mir.Val.{Fits, bits}
use mir.Facts.{Fits-below, and_yes}
use Rattle.arithmetic.specs.Range.{Range, Within, ◌to◌, within}

infixl 70 ◌⊗◌
infixl 70 ◌⊘◌
infixl 65 ◌⊕◌
-- a number that is written out
pub exactly : (n : ℕ) → Within (n to n) n
exactly n = record { low = le_refl n; high = le_refl n }

pub ◌⊗◌ : {r s : Range} {x y : ℕ} → Within r x → Within s y → Within (r.low * s.low to r.high * s.high) (x * y)
p ⊗ q = record { low = mul-le-mul p.low q.low; high = mul-le-mul p.high q.high }

pub ◌⊕◌ : {r s : Range} {x y : ℕ} → Within r x → Within s y → Within (r.low + s.low to r.high + s.high) (x + y)
p ⊕ q = record { low = add-le-add p.low q.low; high = add-le-add p.high q.high }

pub div_mono : {a b : ℕ} (k : ℕ) → a ≤ b → a / k ≤ b / k
div_mono {a} {b} zero h = le_of_eq (div-zero a ∙ sym (div-zero b))
div_mono {a} (suc k) h = (le-div_iff_mul-le (zero-lt-suc k)).1 (le_trans (div-mul-le_self a (suc k)) h)

-- of two fractions the one with the lesser cross product, rounded down, is at most the other
pub lesser_quotient : (a b c d : ℕ) → 0 < b → 0 < d → a * d ≤ c * b → a / b ≤ c / d
lesser_quotient a b c d pb pd cross =
    let up : a / b * d * b ≤ c * b = le_trans (rw (mul_right_comm (a / b) d b) (mul-le-mul_right d (div-mul-le_self a b))) cross in
    (le-div_iff_mul-le pd).1 (le_of_mul-le-mul_right up pb)

-- a quotient by a number that is written out
pub ◌⊘◌ : {r : Range} {x : ℕ} → Within r x → (k : ℕ) → Within (r.low / k to r.high / k) (x / k)
p ⊘ k = record { low = div_mono k p.low; high = div_mono k p.high }

pub fits : {w : Width} {r : Range} {x : ℕ} → Within r x → T (ltb r.high (2 ^ bits w)) → Fits w x
fits p t = Fits-below t p.high

-- a wider range, with simpler ends
pub loosen : {r : Range} {x : ℕ} (s : Range) → Within r x → T (leb s.low r.low && leb r.high s.high) → Within s x
loosen {r} s p t =
    let ends = and_yes (leb s.low r.low) (leb r.high s.high) t in
    record {
      low = le_trans (leb→le s.low r.low ends.0) p.low;
      high = le_trans p.high (leb→le r.high s.high ends.1);
    }

-- the fact from the test
pub within_yes : (range : Range) (x : ℕ) → T (within range x) → Within range x
within_yes range x t =
    let halves = and_yes (leb range.low x) (leb x range.high) t in
    record { low = leb→le range.low x halves.0; high = leb→le x range.high halves.1 }

-- from a bound above alone
pub at_most : {x n : ℕ} → x ≤ n → Within (0 to n) x
at_most h = record { low = zero-le; high = h }

-- either of two numbers, by a test
pub cond_le : (test : Bool) (a b most : ℕ) → a ≤ most → b ≤ most → cond test a b ≤ most
cond_le true a b most p q = p
cond_le false a b most p q = q
