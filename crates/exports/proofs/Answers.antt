-- The three ways out of an exported call, each a case of `answered`. Assumes nothing.
use Prim.Native.Nat.{ℕ, ◌+◌, ◌<◌, ◌≤◌}
use mathlib.Core.Path.{◌≡◌, sym, ◌∙◌}
use mathlib.Core.Bool.{Bool, true, false, ◌&&◌}
use mathlib.Core.Logic.{◌⊎◌}
use lib.Dec.{leb}
use Rattle.std.proofs.Common.{inl, inr}
use borrow.Author.Tests.{eq-eqb, ne_eqb, le-leb, lt-leb}
use native.Mathlib.Nat.{add-zero}
use Rattle.exports.specs.Answers.{answers, answer_number, answered}

module _ {Lent : Type 0} {enough : Bool} (number field face : ℕ) (put entry : Lent) where
  pub too_short : enough ≡ false → answers 100 entry ≡ answered enough number field face put entry
  unfolding answered
  too_short short = rw short

  pub refusal_told : enough ≡ true → (number ≡ 0 → ⊥) → {answer : ℕ} → answer ≡ answer_number number field face
      → answers answer entry ≡ answered enough number field face put entry
  unfolding answered
  refusal_told room refused is = rw (room, ne_eqb number 0 refused, is)

  pub taken : enough ≡ true → number ≡ 0 → {lent : Lent} → lent ≡ put → answers 0 lent ≡ answered enough number field face put entry
  unfolding answered
  taken room none is = rw (room, eq-eqb number 0 none, is)

-- a refusal that has neither field nor face is answered by its number
pub refused : {Lent : Type 0} {enough : Bool} (number : ℕ) (put entry : Lent) → enough ≡ true → {answer told : ℕ} → answer ≡ told
    → told ≡ number → (told ≡ 0 → ⊥)
    → answers answer entry ≡ answered enough number 0 0 put entry
refused number put entry room told is some =
    refusal_told number 0 0 put entry room (λ none. some (is ∙ none)) (told ∙ is ∙ sym (add-zero (number + 0) ∙ add-zero number))

-- one of two slices is too short
pub two_short : {first second size : ℕ} → (first < size) ⊎ ((size ≤ first) × (second < size)) → (leb size first && leb size second) ≡ false
two_short {first} {second} {size} (inl short) = rw (lt-leb size first short)
two_short {first} {second} {size} (inr (enough, short)) = rw (le-leb size first enough, lt-leb size second short)

-- both are long enough
pub enough_both : {first second size other : ℕ} → size ≤ first → other ≤ second → (leb size first && leb other second) ≡ true
enough_both {first} {second} {size} {other} a b = rw (le-leb size first a, le-leb other second b)

-- the same of three
pub three_short : {first second third size other another : ℕ}
    → (first < size) ⊎ (((size ≤ first) × (second < other)) ⊎ ((size ≤ first) × (other ≤ second) × (third < another)))
    → (leb size first && (leb other second && leb another third)) ≡ false
three_short {first} {second} {third} {size} {other} {another} (inl short) = rw (lt-leb size first short)
three_short {first} {second} {third} {size} {other} {another} (inr (inl (enough, short))) =
    rw (le-leb size first enough, lt-leb other second short)
three_short {first} {second} {third} {size} {other} {another} (inr (inr (one, two, short))) =
    rw (le-leb size first one, le-leb other second two, lt-leb another third short)

pub enough_all : {first second third size other another : ℕ} → size ≤ first → other ≤ second → another ≤ third
    → (leb size first && (leb other second && leb another third)) ≡ true
enough_all {first} {second} {third} {size} {other} {another} one two three =
    rw (le-leb size first one, le-leb other second two, le-leb another third three)
