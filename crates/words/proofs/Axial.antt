-- N as a word is its two's complement in 32 bits, both ways. Assumes nothing.
use Rattle.std.proofs.Common.{ℕ, suc, ◌≡◌, ◌-◌, ◌^◌, Bool, true, false, cond, ltb, ℤ, pos, negsuc, refl, ap, arith, to_z, of_z, w32}
use mir.Val.{sel, bits}
use Rattle.words.specs.Words.{axial_of_word, word_of_axial}

less_one : (n : ℕ) → 4294967295 - n ≡ 2 ^ bits w32 - suc n
less_one n = omega arith

pub axial_is : (word : ℕ) → axial_of_word word ≡ to_z w32 word
unfolding axial_of_word
axial_is word = go (ltb word 2147483648)
  where
    go : (low : Bool) → cond low (pos word) (negsuc (4294967295 - word)) ≡ sel low (pos word) (negsuc (2 ^ bits w32 - suc word))
    go true = refl
    go false = ap negsuc (less_one word)

pub word_is : (axial : ℤ) → word_of_axial axial ≡ of_z w32 axial
unfolding word_of_axial
word_is (pos n) = refl
word_is (negsuc n) = less_one n
