-- How many bytes a stored form has: one, and one more for each power of 128 that the number reaches. By induction over the groups.
-- Assumes nothing.
use Prim.Native.Nat.{ℕ, zero, suc, ◌+◌, ◌*◌, ◌/◌, ◌-◌, ◌^◌, ◌≤◌, ◌<◌, max}
use mathlib.Core.Path.{◌≡◌, refl, sym, ap, ◌∙◌}
use mathlib.Core.Logic.{◌⊎◌, inl, inr, ⊎_elim}
use mathlib.Core.List.{List, [], ◌∷◌, ◌++◌, append_assoc}
use native.Mathlib.Omega.{arith}
use native.Mathlib.Nat.{pow-suc, pow-le-pow_right}
use Rattle.std.proofs.lemmas.Nat.{pow-add}
use lib.ListN.{length, length-append}
use Rattle.std.specs.List.{sum_by}
use Rattle.std.proofs.lemmas.List.Sums.{sum_by-cons}
use Rattle.arithmetic.proofs.Tests.{split}
use Rattle.numbers.specs.Number.{groups, stored}
use Rattle.numbers.specs.Run.{stored_all}
use Rattle.numbers.proofs.Codec.{groups_last, groups_more}

below_128 : (power x : ℕ) → 2 ^ power ≤ x → x < 128 → power < 7
below_128 power x reached last =
    ⊎_elim (λ h. h)
    (λ h. let more : 2 ^ 7 ≤ 2 ^ power = pow-le-pow_right {n = 2} (omega arith) {i = 7} {j = power} h in absurd (omega arith)) (split power 7)

from_128 : (power x : ℕ) → x < 2 * 2 ^ power → 128 ≤ x → 7 ≤ power
from_128 power x next follows =
    ⊎_elim
    (λ h. let less : 2 ^ power ≤ 2 ^ 6 = pow-le-pow_right {n = 2} (omega arith) {i = power} {j = 6} (omega arith) in absurd (omega arith))
    (λ h. h) (split power 7)

-- The power of two that a number reaches says how many groups it has, of seven bits each.
groups_reached : (most power x : ℕ) → x < 16 * 128 ^ most → 2 ^ power ≤ x → x < 2 * 2 ^ power
    → length (groups (suc most) x) ≡ power / 7 + 1
unfolding groups
groups_reached zero power x small reached next = rw (groups_last zero x (omega arith)) (omega (arith, below_128 power x reached (omega arith)))
groups_reached (suc most) power x small reached next = go (groups_reached most (power - 7) (x / 128)) (split x 128)
  where
    go : (x / 128 < 16 * 128 ^ most → 2 ^ (power - 7) ≤ x / 128 → x / 128 < 2 * 2 ^ (power - 7)
        → length (groups (suc most) (x / 128)) ≡ (power - 7) / 7 + 1)
        → (x < 128) ⊎ (128 ≤ x) → length (groups (suc (suc most)) x) ≡ power / 7 + 1
    go rest (inl last) = rw (groups_last (suc most) x last) (omega (arith, below_128 power x reached last))
    go rest (inr follows) =
        let seven : 7 ≤ power = from_128 power x next follows in
        let again : power - 7 + 7 ≡ power = omega arith in
        let scale : 2 ^ power ≡ 2 ^ (power - 7) * 128 = sym (ap (λ (n : ℕ). 2 ^ n) again) ∙ pow-add 2 (power - 7) 7 in
        let group : 128 ^ suc most ≡ 128 ^ most * 128 = pow-suc 128 most in
        rw (groups_more (suc most) x follows) (omega (arith, rest (omega arith) (omega arith) (omega arith)))

-- The count of bytes of a number's stored form; 0 has one, as 1 has.
pub stored_length : (power x : ℕ) → x < 2 ^ 32 → 2 ^ power ≤ max x 1 → max x 1 < 2 * 2 ^ power → power / 7 + 1 ≡ length (stored x)
stored_length power x small reached next =
    let count : length (stored (max x 1)) ≡ power / 7 + 1 = groups_reached 4 power (max x 1) (omega arith) reached next in
    ⊎_elim
    (λ (none : x < 1).
    let is : x ≡ 0 = omega arith in
    sym (rw (is, groups_last 4 0 (omega arith)) (rw (is, groups_last 4 1 (omega arith)) at count)))
    (λ (some : 1 ≤ x).
    let same : max x 1 ≡ x = omega arith in
    sym (rw same at count))
    (split x 1)

pub groups_positive : (most x : ℕ) → 0 < length (groups (suc most) x)
groups_positive most x = ⊎_elim (λ h. rw (groups_last most x h) (omega arith)) (λ h. rw (groups_more most x h) (omega arith)) (split x 128)

groups_short : (most x : ℕ) → length (groups most x) ≤ most
unfolding groups
groups_short zero x = omega arith
groups_short (suc most) x =
    let rest : length (groups most (x / 128)) ≤ most = groups_short most (x / 128) in
    ⊎_elim (λ h. rw (groups_last most x h) (omega arith)) (λ h. rw (groups_more most x h) (omega arith)) (split x 128)

-- five bytes at most for each number
pub stored_all_short : (xs : List ℕ) → length (stored_all xs) ≤ 5 * length xs
unfolding stored_all
stored_all_short [] = omega arith
stored_all_short (x ∷ xs) = rw length-append (omega (arith, groups_short 5 x, stored_all_short xs))

-- the sizes of the numbers one by one
pub stored_all_sizes : (xs : List ℕ) → sum_by (λ x. length (stored x)) xs ≡ length (stored_all xs)
unfolding stored_all
stored_all_sizes [] = refl
stored_all_sizes (x ∷ xs) = rw (sum_by-cons, stored_all_sizes xs, length-append)

pub stored_all-append : (xs ys : List ℕ) → stored_all (xs ++ ys) ≡ stored_all xs ++ stored_all ys
unfolding stored_all
stored_all-append [] ys = refl
stored_all-append (x ∷ xs) ys = rw (stored_all-append xs ys, append_assoc)

-- and one at least
pub stored_all_long : (xs : List ℕ) → length xs ≤ length (stored_all xs)
unfolding stored_all
stored_all_long [] = omega arith
stored_all_long (x ∷ xs) = rw length-append (omega (arith, groups_positive 4 x, stored_all_long xs))
