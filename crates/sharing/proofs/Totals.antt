-- Sums of lists: of two lists joined, of a list cut in two, from the top past the last row, of rows i to j, of one row.
-- That of rows i to j is the difference of two sums from the top, by which every later argument goes.
-- Assumes nothing.
use mathlib.Core.Path.{◌≡◌, refl, sym, ap, ap₂, ◌∙◌}
use Prim.Native.Nat.{ℕ, zero, suc, ◌+◌, ◌-◌, ◌≤◌, min}
use native.Mathlib.Nat.{le_refl, add_assoc, zero-add, add-zero, le-add_right}
use native.Mathlib.Decide.{dec_le}
use native.Mathlib.Omega.{arith}
use mathlib.Core.List.{List, [], ◌∷◌, ◌++◌}
use lib.ListN.{length, get_or, take, drop, take-append-drop}
use lib.Seq.{take-add, take_all}
use Rattle.sharing.specs.Groups.{total, group_sum}

pub total-append : (xs ys : List ℕ) → total (xs ++ ys) ≡ total xs + total ys
total-append [] ys = sym (zero-add (total ys))
total-append (x ∷ xs) ys = rw (total-append xs ys) (sym (add_assoc x (total xs) (total ys)))

pub total_snoc : (xs : List ℕ) (x : ℕ) → total (xs ++ (x ∷ [])) ≡ total xs + x
total_snoc xs x = total-append xs (x ∷ []) ∙ ap (λ y. total xs + y) (add-zero x)

pub total_cut : (i : ℕ) (xs : List ℕ) → total (take i xs) + total (drop i xs) ≡ total xs
total_cut i xs = sym (total-append (take i xs) (drop i xs)) ∙ ap total (take-append-drop i xs)

-- a sum from the top grows with the rows
pub total-take_le : (xs : List ℕ) (k m : ℕ) → total (take k xs) ≤ total (take (k + m) xs)
total-take_le xs k m = rw (take-add k m xs, total-append) (le-add_right _ _)

-- nothing stands past the last row
pub take_rows : (xs : List ℕ) (n k : ℕ) → length xs ≡ n → take k xs ≡ take (min k n) xs
take_rows xs n k rows =
    elim (dec_le k n) [
      | yes h ↦ let same : k ≡ min k n = omega arith in ap (λ m. take m xs) same
      | no h ↦ take_all k xs (omega (arith, rows)) ∙ sym (take_all (min k n) xs (omega (arith, rows)))
    ]

-- lists of one length whose sums from the top are the same are the same
pub sums_determine : (xs ys : List ℕ) → length xs ≡ length ys → ((k : ℕ) → total (take k xs) ≡ total (take k ys)) → xs ≡ ys
sums_determine [] [] rows same = refl
sums_determine [] (y ∷ ys) rows same = absurd (omega arith)
sums_determine (x ∷ xs) [] rows same = absurd (omega arith)
sums_determine (x ∷ xs) (y ∷ ys) rows same =
    let first : x ≡ y = omega (arith, same 1) in
    ap₂ ◌∷◌ first (sums_determine xs ys (omega arith) (λ k. omega (arith, same (suc k), first)))

pub above_and_group : (xs : List ℕ) (i j : ℕ) → i ≤ j → total (take i xs) + group_sum xs i j ≡ total (take (suc j) xs)
unfolding group_sum
above_and_group xs i j h =
    let rows : i + (suc j - i) ≡ suc j = omega arith in
    sym (total-append (take i xs) _) ∙ ap total (sym (take-add i (suc j - i) xs) ∙ ap (λ k. take k xs) rows)

-- the next sum from the top is more by the next number, which is the group of its row alone
pub next_sum : (xs : List ℕ) (row : ℕ) → total (take (suc row) xs) ≡ total (take row xs) + get_or xs row 0
next_sum [] zero = refl
next_sum [] (suc row) = refl
next_sum (x ∷ xs) zero = omega arith
next_sum (x ∷ xs) (suc row) = omega (arith, next_sum xs row)

pub one_row : (xs : List ℕ) (row : ℕ) → group_sum xs row row ≡ get_or xs row 0
one_row xs row = omega (arith, above_and_group xs row row (le_refl row), next_sum xs row)
