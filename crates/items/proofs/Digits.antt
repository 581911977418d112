-- A number's digits are put from their end: so many of its lowest are its digits, and what is left to put where the loop begins a turn.
-- Assumes nothing.
use Prim.Native.Nat.{ℕ, zero, suc, ◌+◌, ◌-◌, ◌/◌, ◌%◌, ◌≤◌, ◌<◌}
use mathlib.Core.Path.{◌≡◌, refl, sym, ap, ◌∙◌}
use mathlib.Core.List.{List, [], ◌∷◌, ◌++◌, append_assoc, append-nil}
use mathlib.Core.Logic.{⊎_elim}
use native.Mathlib.Omega.{arith}
use native.Mathlib.Numerals.{add-one}
use lib.ListN.{length, set, drop, length-append, length-set, drop_of_length-le}
use Rattle.std.proofs.lemmas.List.{drop-set}
use lib.Seq.{sets-eq, drop-drop}
use Rattle.arithmetic.proofs.Tests.{split}
use Rattle.buffers.specs.declared.Writer.{Writer}
use Rattle.buffers.specs.Put.{Put}
use Rattle.buffers.specs.Writing.{HasRoom}
use borrow.Rule.Slice.PartMut.{put_mid}
use Rattle.items.specs.Digits.{digit, digits, decimal}
use Rattle.items.proofs.Numerals.{digits_last, digits_more}

-- so many of the lowest digits, the lowest last
unfoldable pub lowest : (count n : ℕ) → List ℕ
lowest zero n = []
lowest (suc count) n = lowest count (n / 10) ++ (digit (n % 10) ∷ [])

digits_lowest : (most n : ℕ) → digits most n ≡ lowest (length (digits most n)) n
unfolding digits lowest
digits_lowest zero n = refl
digits_lowest (suc most) n =
    ⊎_elim (λ (last : n < 10). rw (digits_last most n last) (ap (λ (d : ℕ). digit d ∷ []) (omega arith)))
    (λ (more : 10 ≤ n). rw (digits_more most n more, length-append (digits most (n / 10)) (digit (n % 10) ∷ []), add-one)
    (ap (λ (ds : List ℕ). ds ++ (digit (n % 10) ∷ [])) (digits_lowest most (n / 10))))
    (split n 10)

-- The digits of `left` that are still to be put, so many as there are places before `at`, and those that stand from there on.
pub record DigitsHead (n : ℕ) (part : List ℕ) (at left : ℕ) : Type 0 where
  pub within : at ≤ length part
  pub makes : lowest at left ++ drop at part ≡ decimal n

pub digits_none : (n : ℕ) (part : List ℕ) → length part ≡ length (decimal n) → DigitsHead n part (length part) n
digits_none n part all =
    record { within = omega arith; makes = rw (drop_of_length-le part {i = length part} (omega arith), append-nil, all) (sym (digits_lowest 20 n)) }

pub digits_more_put : {n : ℕ} {part : List ℕ} {at left : ℕ} → DigitsHead n part at left → 0 < at
    → DigitsHead n (set part (at - 1) (48 + left % 10)) (at - 1) (left / 10)
unfolding lowest
digits_more_put {n} {part} {at} {left} head more =
    let one_more : at ≡ suc (at - 1) = omega arith in
    let next : at - 1 + 1 ≡ at = omega arith in
    let last : lowest at left ≡ lowest (at - 1) (left / 10) ++ (digit (left % 10) ∷ []) = ap (λ (count : ℕ). lowest count left) one_more in
    record {
      within = omega (arith, head.within, length-set part (at - 1) (48 + left % 10));
      makes =
          rw (drop-set part (at - 1) (48 + left % 10) (omega (arith, head.within)), next)
          (sym (append_assoc (lowest (at - 1) (left / 10)) (digit (left % 10) ∷ []) (drop at part)) ∙ (rw last at head.makes));
    }

-- a part of the writer's buffer that has all the digits is what was to be put
pub digits_put : {n left count : ℕ} {part : List ℕ} {at : ℕ} (writer : Writer) → DigitsHead n part at left → at ≤ 0
    → count ≡ length (decimal n) → HasRoom writer (length (decimal n))
    → Put writer.buffer.now writer.at (decimal n) (put_mid writer.at (writer.at + count - writer.at) writer.buffer.now part) (writer.at + count)
unfolding lowest
digits_put {n} {left} {count} {part} {at} writer head done all room =
    let none : at ≡ 0 = omega arith in
    let whole : part ≡ decimal n = rw none at head.makes in
    let size : writer.at + count - writer.at ≡ length (decimal n) = omega (arith, all) in
    record {
      place = ap (λ (k : ℕ). writer.at + k) all;
      stores = rw (whole, size, drop-drop)
          (sym (sets-eq (decimal n) writer.buffer.now writer.at room ∙ append_assoc _ (decimal n) _));
    }
