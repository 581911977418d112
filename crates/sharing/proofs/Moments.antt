-- Of two lists of forces on levers that fall, one whose every sum from the top is at least the other's has at least the
-- other's moment, and the same moment only where the lists are the same. One whose sums above a row are the other's, and whose sums
-- further down are at most some newtons more, has at most these newtons times that row's lever more.
-- The recursion goes down the rows with the newtons in hand: by how much the first sum is ahead, held at the lever above.
-- Moving them down to the next lever loses something unless there are none. Assumes nothing.
use mathlib.Core.Path.{◌≡◌, refl, sym, ap, ap₂, ◌∙◌}
use Prim.Native.Nat.{ℕ, zero, suc, ◌+◌, ◌-◌, ◌*◌, ◌≤◌, ◌<◌}
use native.Mathlib.Nat.{le_refl, add-mul, mul-le-mul_left, mul-lt-mul_of_pos_left, eq-zero-or-pos}
use native.Mathlib.Omega.{arith}
use mathlib.Core.Logic.{⊎_elim}
use mathlib.Core.List.{List, [], ◌∷◌}
use lib.ListN.{length, take, get_or}
use Rattle.sharing.specs.Groups.{total}
use Rattle.sharing.specs.Sharing.{moment, Falling}

-- levers that fall, none of them above `top`
pub record FallsFrom (top : ℕ) (levers : List ℕ) : Type 0 where
  pub first : get_or levers 0 0 ≤ top
  pub falls : (k : ℕ) → suc k < length levers → get_or levers (suc k) 0 < get_or levers k 0
  pub positives : (k : ℕ) → k < length levers → 1 ≤ get_or levers k 0

pub falling_from : (levers : List ℕ) (n top : ℕ) → Falling levers n → get_or levers 0 0 ≤ top → FallsFrom top levers
falling_from levers n top f below =
    record {
      first = below;
      falls = λ k h. omega (arith, f.falls k (omega (arith, f.rows)));
      positives = λ k h. omega (arith, f.positive k (omega (arith, f.rows)));
    }

-- the next lever is below the first; where there is none, 0 is
next_below : (top lever : ℕ) (levers : List ℕ) → FallsFrom top (lever ∷ levers) → get_or levers 0 0 < lever
next_below top lever [] f = f.positives 0 (omega arith)
next_below top lever (next ∷ levers) f = f.falls 0 (omega arith)

falls_tail : (top lever : ℕ) (levers : List ℕ) → FallsFrom top (lever ∷ levers) → FallsFrom lever levers
falls_tail top lever levers f =
    record {
      first = omega (arith, next_below top lever levers f);
      falls = λ k h. f.falls (suc k) (omega arith);
      positives = λ k h. f.positives (suc k) (omega arith);
    }

-- the sums of `ahead`, with the newtons in hand, are nowhere below those of `behind`
abbrev Ahead : ℕ → List ℕ → List ℕ → Type 0
Ahead hand ahead behind = (k : ℕ) → total (take k behind) ≤ hand + total (take k ahead)

ahead_tail : (hand x y : ℕ) (xs ys : List ℕ) → Ahead hand (x ∷ xs) (y ∷ ys) → Ahead (hand + x - y) xs ys
ahead_tail hand x y xs ys d k = let one = d 1 in let more = d (suc k) in omega arith

-- a lever's worth of what is in hand, against the next lever's
hand_down : (hand x y lever top : ℕ) → y ≤ hand + x → lever ≤ top
    → y * lever + (hand + x - y) * lever ≤ hand * top + x * lever
hand_down hand x y lever top h fall =
    let apart : y + (hand + x - y) ≡ hand + x = omega arith in
    let moved = sym (add-mul y (hand + x - y) lever) ∙ ap (λ m. m * lever) apart ∙ add-mul hand x lever in
    omega (arith, moved, mul-le-mul_left hand fall)

-- what is in hand at a higher lever is worth more, unless nothing is in hand
none_in_hand : (hand lever top : ℕ) → lever < top → hand * top ≤ hand * lever → hand ≡ 0
none_in_hand hand lever top fall h =
    ⊎_elim (λ z. z) (λ pos. let more = mul-lt-mul_of_pos_left fall pos in absurd (omega arith)) (eq-zero-or-pos hand)

pub moment_le : (levers xs ys : List ℕ) (hand top : ℕ) → FallsFrom top levers → length xs ≡ length levers → length ys ≡ length levers
    → Ahead hand xs ys → moment levers ys ≤ hand * top + moment levers xs
unfolding moment
moment_le [] xs ys hand top f ex ey d = omega arith
moment_le (lever ∷ levers) [] ys hand top f ex ey d = absurd (omega arith)
moment_le (lever ∷ levers) (x ∷ xs) [] hand top f ex ey d = absurd (omega arith)
moment_le (lever ∷ levers) (x ∷ xs) (y ∷ ys) hand top f ex ey d =
    let one = d 1 in
    let below = moment_le levers xs ys (hand + x - y) lever (falls_tail top lever levers f) (omega arith) (omega arith)
    (ahead_tail hand x y xs ys d) in
    omega (arith, hand_down hand x y lever top (omega arith) f.first)

-- with every lever below `top`
pub moment_eq : (levers xs ys : List ℕ) (hand top : ℕ) → FallsFrom top levers → get_or levers 0 0 < top → length xs ≡ length levers
    → length ys ≡ length levers → Ahead hand xs ys → hand * top + moment levers xs ≤ moment levers ys → (hand ≡ 0) × (ys ≡ xs)
unfolding moment
moment_eq [] [] [] hand top f fall ex ey d e = (none_in_hand hand 0 top fall (omega arith), refl)
moment_eq [] [] (y ∷ ys) hand top f fall ex ey d e = absurd (omega arith)
moment_eq [] (x ∷ xs) ys hand top f fall ex ey d e = absurd (omega arith)
moment_eq (lever ∷ levers) [] ys hand top f fall ex ey d e = absurd (omega arith)
moment_eq (lever ∷ levers) (x ∷ xs) [] hand top f fall ex ey d e = absurd (omega arith)
moment_eq (lever ∷ levers) (x ∷ xs) (y ∷ ys) hand top f fall ex ey d e =
    let one = d 1 in
    let tail = falls_tail top lever levers f in
    let ahead = ahead_tail hand x y xs ys d in
    let below = moment_le levers xs ys (hand + x - y) lever tail (omega arith) (omega arith) ahead in
    let none = none_in_hand hand lever top fall (omega (arith, hand_down hand x y lever lever (omega arith) (le_refl lever))) in
    let rest = moment_eq levers xs ys (hand + x - y) lever tail (next_below top lever levers f) (omega arith) (omega arith) ahead
    (omega (arith, hand_down hand x y lever top (omega arith) f.first)) in
    let same : y ≡ x = omega (arith, rest.0) in
    (none, ap₂ (λ z zs. z ∷ zs) same rest.1)

pub moment-within : (first : ℕ) (levers xs ys : List ℕ) (hand top : ℕ) → FallsFrom top levers → length xs ≡ length levers
    → length ys ≡ length levers → ((k : ℕ) → k ≤ first → total (take k ys) ≡ total (take k xs)) → Ahead hand xs ys
    → moment levers ys ≤ moment levers xs + hand * get_or levers first 0
unfolding moment
moment-within zero levers xs ys hand top f ex ey same d =
    let from_first : FallsFrom (get_or levers 0 0) levers = record { first = le_refl _; falls = f.falls; positives = f.positives } in
    omega (arith, moment_le levers xs ys hand (get_or levers 0 0) from_first ex ey d)
moment-within (suc first) [] xs ys hand top f ex ey same d = omega arith
moment-within (suc first) (lever ∷ levers) [] ys hand top f ex ey same d = absurd (omega arith)
moment-within (suc first) (lever ∷ levers) (x ∷ xs) [] hand top f ex ey same d = absurd (omega arith)
moment-within (suc first) (lever ∷ levers) (x ∷ xs) (y ∷ ys) hand top f ex ey same d =
    let row : y ≡ x = omega (arith, same 1 (omega arith)) in
    let below = moment-within first levers xs ys hand lever (falls_tail top lever levers f) (omega arith) (omega arith)
    (λ k h. omega (arith, same (suc k) (omega arith), row)) (λ k. let more = d (suc k) in omega (arith, row)) in
    omega (arith, ap (λ force. force * lever) row)
