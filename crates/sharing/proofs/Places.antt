-- Where the limits of a row's groups stand in a list of n(n+1)÷2 limits: each row's follow those of the row above, and all
-- have their place. Twice the groups above row i, and the m(m+1) that the m rows from there on make, are n(n+1). Since no two groups have
-- one place, a limit stored at a group's place is that group's alone. Assumes nothing.
use mathlib.Core.Path.{◌≡◌, sym, ap, ap₂, ◌∙◌}
use Prim.Native.Nat.{ℕ, zero, suc, ◌+◌, ◌-◌, ◌*◌, ◌≤◌, ◌<◌}
use native.Mathlib.Nat.{zero-add, suc-add, add-suc, suc-mul, mul-suc, mul-le-mul, add-zero}
use native.Mathlib.Numerals.{add-one}
use native.Mathlib.Decide.{dec_le}
use native.Mathlib.Omega.{arith}
use mathlib.Core.List.{List}
use lib.ListN.{length, get_or, set}
use lib.Seq.{get_or-set_same, get_or-set_other}
use Rattle.sharing.specs.Groups.{groups_above, place_of, group_count, listed}

-- (m + 1)(m + 2) is m(m + 1) and twice m + 1
next_triangle : (m : ℕ) → suc m * (suc m + 1) ≡ m * (m + 1) + 2 * suc m
next_triangle m = rw (add-one (suc m), add-one m, mul-suc (suc m) (suc m), suc-mul m (suc m)) (omega arith)

triangle : (i m : ℕ) → 2 * groups_above (i + m) i + m * (m + 1) ≡ (i + m) * (i + m + 1)
unfolding groups_above
triangle zero m = simp zero-add (omega arith)
triangle (suc i) m =
    let rows : suc i + m ≡ i + suc m = suc-add i m ∙ sym (add-suc i m) in
    let above = triangle i (suc m) in
    rw rows (omega (arith, above, next_triangle m, ap (λ n. groups_above n i) rows))

pub all_groups : (n : ℕ) → groups_above n n ≡ group_count n
unfolding group_count
all_groups n =
    let twice : 2 * groups_above n n + 0 * (0 + 1) ≡ n * (n + 1) = rw (add-zero n) at (triangle n 0) in
    omega arith

-- eight rows make 36 groups, and fewer rows no more
pub group_count_le : (n : ℕ) → n ≤ 8 → group_count n ≤ 36
unfolding group_count
group_count_le n h = omega (arith, mul-le-mul {n₁ = n} {m₁ = n + 1} {n₂ = 8} {m₂ = 9} h (omega arith))

pub groups_grow : (n i d : ℕ) → groups_above n i ≤ groups_above n (i + d)
unfolding groups_above
groups_grow n i zero = rw (add-zero i) (omega arith)
groups_grow n i (suc d) = let shorter = groups_grow n i d in rw (add-suc i d) (omega arith)

-- the groups that begin at row i have their places in the list
pub groups_inside : (n i : ℕ) → i < n → groups_above n i + (n - i) ≤ group_count n
unfolding groups_above
groups_inside n i h =
    let rows : suc i + (n - suc i) ≡ n = omega arith in
    let grown = groups_grow n (suc i) (n - suc i) in
    omega (arith, ap (groups_above n) rows, all_groups n)

-- a group that begins at an upper row stands before those that begin at a lower one
upper_first : (n a b i : ℕ) → a ≤ b → b < n → a < i → place_of n a b < groups_above n i
unfolding groups_above
upper_first n a b i h inside under =
    let rows : suc a + (i - suc a) ≡ i = omega arith in
    let grown = groups_grow n (suc a) (i - suc a) in
    omega (arith, ap (groups_above n) rows)

-- no two groups have one place
pub one_group_a_place : (n a b i j : ℕ) → a ≤ b → b < n → i ≤ j → j < n → place_of n a b ≡ place_of n i j
    → (a ≡ i) × (b ≡ j)
one_group_a_place n a b i j hb inside hj under e =
    let row = same_row (dec_le a i) (dec_le i a) in
    (row, (let places : b - a ≡ j - i = omega (arith, ap (groups_above n) row) in omega arith))
  where
    same_row : Dec (a ≤ i) → Dec (i ≤ a) → a ≡ i
    same_row (yes p) (yes q) = omega arith
    same_row (yes p) (no q) = absurd (omega (arith, upper_first n a b i hb inside (omega arith)))
    same_row (no p) q = absurd (omega (arith, upper_first n i j a hj under (omega arith)))

module _ (n a b place x : ℕ) (limits : List ℕ) (hb : a ≤ b) (inside : b < n) (here : place ≡ place_of n a b) where
  -- a limit stored at a group's place is that group's
  pub stored_same : group_count n ≤ length limits → (i j : ℕ) → i ≡ a → j ≡ b → listed n (set limits place x) i j ≡ x
  unfolding listed
  stored_same enough i j first last =
      let own : place_of n i j ≡ place = ap₂ (place_of n) first last ∙ sym here in
      ap (λ k. get_or (set limits place x) k 0) own
      ∙ get_or-set_same limits place x 0 (omega (arith, groups_inside n a (omega arith)))

  -- and every other group keeps its own
  pub stored_other : (i j : ℕ) → i ≤ j → j < n → ((i ≡ a) × (j ≡ b) → ⊥) → listed n (set limits place x) i j ≡ listed n limits i j
  unfolding listed
  stored_other i j hj under other =
      get_or-set_other limits place (place_of n i j) x 0 (λ e. other (one_group_a_place n i j a b hj under hb inside (e ∙ here)))
