-- Testing a joint's rows one after the other; what their least pitch tells of a distance; and levers that fall.
-- Assumes nothing.
use mathlib.Core.Path.{◌≡◌, refl, sym, ap, ◌∙◌}
use mathlib.Core.Bool.{Bool, true, false, ◌&&◌, and_assoc, and-true}
use Prim.Native.Nat.{ℕ, suc, min, ◌+◌, ◌-◌, ◌≤◌, ◌<◌}
use native.Mathlib.Nat.{le_refl, add-suc, suc-add, zero-add}
use native.Mathlib.Numerals.{add-one}
use native.Mathlib.Omega.{arith}
use mathlib.Core.List.{List, [], ◌∷◌}
use lib.ListN.{length, get_or, take, drop}
use Rattle.std.proofs.lemmas.List.{take_all}
use lib.Seq.{length-take-le, get_or-take}
use lib.Dec.{T, leb, leb→le}
use borrow.Author.Tests.{leb-true, leb-false, le-leb, lt-leb, ne_eqb}
use Rattle.std.specs.List.{list_all, enumerate_from}
use Rattle.arithmetic.specs.Table.{every}
use Rattle.arithmetic.proofs.Table.{at}
use Rattle.joint.specs.Ranges.{most_lever}
use Rattle.refusals.specs.Refusals.{below_above_by, fall_by}

-- testing each number of a list with its place
pub every_by_number : (test : ℕ → ℕ → Bool) (xs : List ℕ) (place : ℕ)
    → every test place xs ≡ list_all (λ p. test p.0 p.1) (enumerate_from place xs)
every_by_number test [] place = refl
every_by_number test (x ∷ xs) place =
    ap (λ rest. test place x && rest) (rw (add-one place) (every_by_number test xs (suc place)))

-- a test of the lesser of two numbers is a test of both
of_lesser : (distance a b : ℕ) → leb distance (min a b) ≡ (leb distance a && leb distance b)
of_lesser distance a b = by_tests (leb distance a) (leb distance b) refl refl
  where
    by_tests : (s t : Bool) → leb distance a ≡ s → leb distance b ≡ t → leb distance (min a b) ≡ (s && t)
    by_tests true true ea eb = le-leb distance (min a b) (omega (arith, leb-true distance a ea, leb-true distance b eb))
    by_tests true false ea eb = lt-leb distance (min a b) (omega (arith, leb-false distance b eb))
    by_tests false t ea eb = lt-leb distance (min a b) (omega (arith, leb-false distance a ea))

-- a lever is below another by a distance above 0 exactly when their pitch reaches it
of_pitch : (distance above lever : ℕ) → 0 < distance → leb (lever + distance) above ≡ leb distance (above - lever)
of_pitch distance above lever h = sym (by_test (leb (lever + distance) above) refl)
  where
    by_test : (t : Bool) → leb (lever + distance) above ≡ t → leb distance (above - lever) ≡ t
    by_test true e = le-leb distance (above - lever) (omega (arith, leb-true (lever + distance) above e))
    by_test false e = lt-leb distance (above - lever) (omega (arith, leb-false (lever + distance) above e))

-- from each lever of a list to the next they fall by a distance
abbrev pub falls_on : (distance : ℕ) → List ℕ → Bool
falls_on distance [] = true
falls_on distance (above ∷ []) = true
falls_on distance (above ∷ lever ∷ levers) = leb (lever + distance) above && falls_on distance (lever ∷ levers)

-- so do those from a row on
from_row : (distance row : ℕ) (levers : List ℕ) (above : ℕ) (rest : List ℕ)
    → ((k : ℕ) → k < length (above ∷ rest) → get_or levers (row + k) 0 ≡ get_or (above ∷ rest) k 0)
    → every (below_above_by distance levers) (suc row) rest ≡ falls_on distance (above ∷ rest)
from_row distance row levers above [] same = refl
from_row distance row levers above (lever ∷ rest) same =
    let here : suc row - 1 ≡ row + 0 = omega arith in
    let others = from_row distance (suc row) levers lever rest (λ k h. ap (λ i. get_or levers i 0) (suc-add row k ∙ sym (add-suc row k)) ∙ same (suc k) (omega (arith, h))) in
    rw (ne_eqb (suc row) 0 (omega arith), here, same 0 (omega arith)) (ap (λ b. leb (lever + distance) above && b) others)

module _ (distance : ℕ) where
  front_falls_on : (rows : ℕ) (levers : List ℕ) → rows ≤ length levers → fall_by distance rows levers ≡ falls_on distance (take rows levers)
  unfolding fall_by
  front_falls_on rows levers few =
      go (take rows levers) (λ k used. sym (get_or-take rows levers k 0 (omega (arith, used, length-take-le rows levers few))))
    where
      go : (xs : List ℕ) → ((k : ℕ) → k < length xs → get_or levers k 0 ≡ get_or xs k 0)
          → every (below_above_by distance levers) 0 xs ≡ falls_on distance xs
      go [] same = refl
      go (x ∷ xs) same = from_row distance 0 levers x xs (λ k used. ap (λ i. get_or levers i 0) (zero-add k) ∙ same k used)

  all_fall_on : (levers : List ℕ) → fall_by distance (length levers) levers ≡ falls_on distance levers
  all_fall_on levers =
      front_falls_on (length levers) levers (le_refl _) ∙ ap (falls_on distance) (take_all (length levers) levers (le_refl _))

  -- the levers of so many rows, as a list of their own, fall just so
  pub front_falls : (rows : ℕ) (levers : List ℕ) → rows ≤ length levers
      → fall_by distance rows levers ≡ fall_by distance (length (take rows levers)) (take rows levers)
  front_falls rows levers few = front_falls_on rows levers few ∙ sym (all_fall_on (take rows levers))

  -- `most_lever` stands for no pitch, and no distance asked about is greater
  pub all_pairs : (levers : List ℕ) → distance ≤ most_lever
      → fall_by distance (length levers) levers ≡ (leb distance most_lever && falls_on distance levers)
  all_pairs levers h = all_fall_on levers ∙ ap (λ b. b && falls_on distance levers) (sym (le-leb distance most_lever h))

  -- one pair more
  pub next_pair : 0 < distance → (pitch : ℕ) (rest : List ℕ) → 2 ≤ length rest
      → (leb distance pitch && falls_on distance rest)
      ≡ (leb distance (min pitch (get_or (take 2 rest) 0 0 - get_or (take 2 rest) 1 0)) && falls_on distance (drop 1 rest))
  next_pair positive pitch [] two = absurd (omega arith)
  next_pair positive pitch (above ∷ []) two = absurd (omega arith)
  next_pair positive pitch (above ∷ lever ∷ rest) two =
      let others = falls_on distance (lever ∷ rest) in
      ap (λ b. leb distance pitch && (b && others)) (of_pitch distance above lever positive)
      ∙ sym (and_assoc (leb distance pitch) (leb distance (above - lever)) others)
      ∙ ap (λ b. b && others) (sym (of_lesser distance pitch (above - lever)))

  pub no_pair : (pitch : ℕ) (rest : List ℕ) → length rest < 2 → (leb distance pitch && falls_on distance rest) ≡ leb distance pitch
  no_pair pitch [] few = and-true (leb distance pitch)
  no_pair pitch (lever ∷ []) few = and-true (leb distance pitch)
  no_pair pitch (above ∷ lever ∷ rest) few = absurd (omega arith)

-- levers that pass fall from row to row
pub falls : (levers : List ℕ) (rows : ℕ) → rows ≤ length levers → fall_by 1 rows levers ≡ true
    → (k : ℕ) → suc k < rows → get_or levers (suc k) 0 < get_or levers k 0
unfolding fall_by
falls levers rows few t k h =
    let tested = at (below_above_by 1 levers) (take rows levers) (rw t tt) (suc k) (rw (length-take-le rows levers few) h) in
    let above : suc k - 1 ≡ k = omega arith in
    let own : T (leb (get_or levers (suc k) 0 + 1) (get_or levers k 0))
    = rw (get_or-take rows levers (suc k) 0 h, ne_eqb (suc k) 0 (omega arith), above) at tested in
    omega (arith, leb→le (get_or levers (suc k) 0 + 1) (get_or levers k 0) own)
