-- Digits: a number of 64 bits is written as its tens followed by its last digit, so that twenty digits are always enough. From that, how
-- many digits there are: one more than the power of ten that it reaches. Assumes nothing.
use Prim.Native.Nat.{ℕ, zero, suc, ◌+◌, ◌/◌, ◌%◌, ◌^◌, ◌*◌, ◌≤◌, ◌<◌, max}
use mathlib.Core.Path.{◌≡◌, sym}
use mathlib.Core.List.{[], ◌∷◌, ◌++◌}
use mathlib.Core.Logic.{⊎_elim}
use native.Mathlib.Omega.{arith}
use native.Mathlib.Nat.{pow-suc, one-le-pow}
use borrow.Author.Tests.{lt-ltb, le-ltb}
use lib.ListN.{length, length-append}
use Rattle.arithmetic.proofs.Tests.{split}
use Rattle.items.specs.Digits.{digit, digits, decimal}

pub digits_last : (most n : ℕ) → n < 10 → digits (suc most) n ≡ digit n ∷ []
unfolding digits
digits_last most n last = rw (lt-ltb n 10 last)

pub digits_more : (most n : ℕ) → 10 ≤ n → digits (suc most) n ≡ digits most (n / 10) ++ (digit (n % 10) ∷ [])
unfolding digits
digits_more most n more = rw (le-ltb n 10 more)

-- one more place than a number needs stays empty
digits_enough : (most n : ℕ) → n < 10 ^ suc most → digits (suc (suc most)) n ≡ digits (suc most) n
digits_enough zero n small = rw (digits_last 1 n small, digits_last 0 n small)
digits_enough (suc most) n small =
    let rest : n / 10 < 10 ^ suc most → digits (suc (suc most)) (n / 10) ≡ digits (suc most) (n / 10) = digits_enough most (n / 10) in
    let power : 10 ^ suc (suc most) ≡ 10 ^ suc most * 10 = pow-suc 10 (suc most) in
    ⊎_elim (λ last. rw (digits_last (suc (suc most)) n last, digits_last (suc most) n last))
    (λ more. rw (digits_more (suc (suc most)) n more, digits_more (suc most) n more, rest (omega arith)))
    (split n 10)

decimal_last : (n : ℕ) → n < 10 → decimal n ≡ digit n ∷ []
decimal_last n last = digits_last 19 n last

decimal_more : (n : ℕ) → n < 2 ^ 64 → 10 ≤ n → decimal n ≡ decimal (n / 10) ++ (digit (n % 10) ∷ [])
decimal_more n small more = rw (digits_more 19 n more, digits_enough 18 (n / 10) (omega arith))

-- ---- how many

digits_short : (most n : ℕ) → length (digits most n) ≤ most
unfolding digits
digits_short zero n = omega arith
digits_short (suc most) n =
    let rest : length (digits most (n / 10)) ≤ most = digits_short most (n / 10) in
    ⊎_elim (λ last. rw (digits_last most n last) (omega arith))
    (λ more. rw (digits_more most n more, length-append) (omega arith))
    (split n 10)

pub decimal_short : (n : ℕ) → length (decimal n) ≤ 20
decimal_short n = digits_short 20 n

count_last : (n : ℕ) → n < 10 → length (decimal n) ≡ 1
count_last n last = rw (decimal_last n last)

count_more : (n : ℕ) → n < 2 ^ 64 → 10 ≤ n → length (decimal n) ≡ length (decimal (n / 10)) + 1
count_more n small more = rw (decimal_more n small more) (length-append (decimal (n / 10)) (digit (n % 10) ∷ []))

count_power : (power n : ℕ) → n < 2 ^ 64 → 10 ^ power ≤ n → n < 10 * 10 ^ power → length (decimal n) ≡ power + 1
count_power zero n small reached next = count_last n (omega arith)
count_power (suc power) n small reached next =
    let tens : 10 ^ suc power ≡ 10 ^ power * 10 = pow-suc 10 power in
    let positive : 0 < 10 ^ power = one-le-pow power 10 (omega arith) in
    omega (
      arith,
      count_more n small (omega arith),
      count_power power (n / 10) (omega arith) (omega arith) (omega arith),
    )

-- 0 has one digit, as 1 has
pub count_reached : (power n : ℕ) → n < 2 ^ 64 → 10 ^ power ≤ max n 1 → max n 1 < 10 * 10 ^ power → power + 1 ≡ length (decimal n)
count_reached power n small reached next =
    let count : length (decimal (max n 1)) ≡ power + 1 = count_power power (max n 1) (omega arith) reached next in
    let same : 1 ≤ n → max n 1 ≡ n = λ some. omega arith in
    ⊎_elim (λ (none : n < 1). omega (arith, count, count_last (max n 1) (omega arith), count_last n (omega arith)))
    (λ (some : 1 ≤ n). sym (rw (same some) at count))
    (split n 1)
