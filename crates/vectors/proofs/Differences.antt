-- What a loop that compares two lists place by place knows. Assumes nothing.
use Prim.Native.Nat.{ℕ, suc, ◌+◌}
use mathlib.Core.Path.{◌≡◌, refl, sym, ◌∙◌}
use mathlib.Core.Logic.{◌⊎◌, inl, inr}
use mathlib.Core.List.{List, [], ◌∷◌}
use native.Mathlib.Numerals.{add-one}
use Rattle.std.specs.Prelude.{Ok, Err}
use lib.ListN.{length}
use borrow.Author.Tests.{eq-eqb, ne_eqb}
use Rattle.vectors.specs.declared.compare.Difference.TheVariants.{Item, Unreadable}
use Rattle.vectors.specs.Difference.{first_difference, compared}

pub lengths_differ : (are should : List ℕ) → (length are ≡ length should → ⊥) → compared are should ≡ Err Unreadable
unfolding compared
lengths_differ are should differ = rw (ne_eqb (length are) (length should) differ) refl

-- the answer is that of what is left of the lists, whose first places have the number after `place`
abbrev pub Left : (are should : List ℕ) (place : ℕ) (left expected : List ℕ) → Type 0
Left are should place left expected = compared are should ≡ first_difference (suc place) left expected

module _ (are should : List ℕ) where
  pub none_passed : length are ≡ length should → (place : ℕ) (left expected : List ℕ) → place ≡ 0 → left ≡ are → expected ≡ should → Left are should place left expected
  unfolding compared
  none_passed e place left expected p a b = rw (p, a, b, eq-eqb (length are) (length should) e) refl

  -- a turn of the loop, which takes a number off each list
  module _ (place x y : ℕ) (xs ys left expected : List ℕ) (before : Left are should place left expected) (a : left ≡ x ∷ xs) (b : expected ≡ y ∷ ys) where
    pub one_alike : x ≡ y → Left are should (place + 1) xs ys
    unfolding first_difference
    one_alike e = before ∙ rw (a, b, eq-eqb x y e, add-one) refl

    pub one_differs : (x ≡ y → ⊥) → Err (Item (place + 1) x y) ≡ compared are should
    unfolding first_difference
    one_differs differ = sym (before ∙ rw (a, b, ne_eqb x y differ, add-one) refl)

  pub all_alike : (place : ℕ) (left expected : List ℕ) → Left are should place left expected → (left ≡ []) ⊎ (expected ≡ []) → Ok tt ≡ compared are should
  unfolding first_difference
  all_alike place left expected before (inl none) = sym (before ∙ rw none refl)
  all_alike place [] expected before (inr none) = sym before
  all_alike place (x ∷ xs) expected before (inr none) = sym (before ∙ rw none refl)
