-- A cap on the whole sum is a limit on group 1 to n: a list competes under the table with the cap joined exactly when it
-- competes under the table and its sum is at most the cap.
-- The group of all rows is the whole list; every other group keeps its limit. Assumes nothing.
use mathlib.Core.Path.{◌≡◌, refl, sym, ap, ◌∙◌}
use mathlib.Core.Logic.{◌↔◌}
use mathlib.Core.Bool.{Bool, true, false, cond, ◌&&◌}
use Prim.Native.Nat.{ℕ, zero, suc, ◌-◌, ◌≤◌, min}
use native.Mathlib.Nat.{le_refl, le_trans, min-le_left, min-le_right, le-min}
use native.Mathlib.Omega.{arith}
use mathlib.Core.List.{List, [], ◌∷◌}
use lib.ListN.{length}
use lib.Seq.{take_all}
use lib.Dec.{eqb}
use borrow.Author.Tests.{eq-eqb, eqb-true}
use Rattle.sharing.specs.Groups.{Table, total, group_sum, with_cap}
use Rattle.sharing.specs.Sharing.{Competes}

-- the group of all rows
whole : (xs : List ℕ) (k : ℕ) → length xs ≡ suc k → group_sum xs 0 k ≡ total xs
unfolding group_sum
whole xs k e = ap total (take_all (suc k - 0) xs (omega (arith, e)))

module _ (limit : Table) (n cap : ℕ) where
  with_cap_whole : (k : ℕ) → n ≡ suc k → with_cap limit n cap 0 k ≤ cap
  unfolding with_cap
  with_cap_whole k e = rw (eq-eqb (suc k) n (sym e)) (min-le_right _ _)

  le_with_cap : (i j x : ℕ) → x ≤ limit i j → (i ≡ 0 → suc j ≡ n → x ≤ cap) → x ≤ with_cap limit n cap i j
  unfolding with_cap
  le_with_cap i j x below capped = go (eqb i 0) (eqb (suc j) n) refl refl
    where
      go : (s t : Bool) → eqb i 0 ≡ s → eqb (suc j) n ≡ t → x ≤ cond (s && t) (min (limit i j) cap) (limit i j)
      go true true es et = le-min below (capped (eqb-true _ _ es) (eqb-true _ _ et))
      go true false es et = below
      go false t es et = below

  with_cap_le : (i j : ℕ) → with_cap limit n cap i j ≤ limit i j
  unfolding with_cap
  with_cap_le i j = go (eqb i 0 && eqb (suc j) n)
    where
      go : (t : Bool) → cond t (min (limit i j) cap) (limit i j) ≤ limit i j
      go true = min-le_left _ _
      go false = le_refl _

  module _ (forces : List ℕ) where
    within_cap : (m : ℕ) → n ≡ m → Competes (with_cap limit n cap) n forces → total forces ≤ cap
    within_cap zero e c = none forces (omega (arith, c.rows))
      where
        none : (xs : List ℕ) → length xs ≡ 0 → total xs ≤ cap
        none [] h = omega arith
        none (x ∷ xs) h = absurd (omega arith)
    within_cap (suc k) e c =
        let kept = c.keeps 0 k (omega arith) (omega (arith, e)) in
        omega (arith, with_cap_whole k e, whole forces k (c.rows ∙ e))

    pub cap_is_a_limit : Competes (with_cap limit n cap) n forces ↔ (Competes limit n forces × (total forces ≤ cap))
    cap_is_a_limit = (
      (λ c. (record { rows = c.rows; keeps = λ i j h inside. le_trans (c.keeps i j h inside) (with_cap_le i j) }, within_cap n refl c)),
      (λ c. record {
        rows = c.0.rows;
        keeps = λ i j h inside. le_with_cap i j _ (c.0.keeps i j h inside)
            (λ top last. rw top (omega (arith, c.1, whole forces j (c.0.rows ∙ sym last))));
      }),
    )
