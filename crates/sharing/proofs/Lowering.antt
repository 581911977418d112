-- Lowered limits: at most the limit itself, growing as the group reaches further, and each the lesser of its own limit and the
-- next longer group's lowered limit, which is how code lowers a row's limits in one pass from the longest group on.
-- Assumes nothing.
use mathlib.Core.Path.{◌≡◌, sym, ap, ◌∙◌}
use Prim.Native.Nat.{ℕ, zero, suc, ◌+◌, ◌-◌, ◌≤◌, ◌<◌, min}
use native.Mathlib.Nat.{le_trans, le_of_eq, le_antisymm, add-suc, suc-add, add-zero, min-le_left, min-le_right, le-min}
use native.Mathlib.Omega.{arith}
use Rattle.sharing.specs.Groups.{Table}
use Rattle.sharing.specs.Sharing.{least_up_to, lowered}
use Rattle.sharing.proofs.Least.{least_le, le_least}

module _ (limit : Table) (n : ℕ) where
  pub lowered_grows : (i j : ℕ) → suc j < n → lowered limit n i j ≤ lowered limit n i (suc j)
  unfolding lowered
  lowered_grows i j h =
      le_least _ (n - suc (suc j)) _
      (λ d hd.
      let further : suc d ≤ n - suc j = omega arith in
      le_trans (least_le (λ e. limit i (j + e)) (n - suc j) (suc d) further) (le_of_eq (ap (limit i) (add-suc j d ∙ sym (suc-add j d)))))

  pub lowered_le : (i j : ℕ) → lowered limit n i j ≤ limit i j
  unfolding lowered
  lowered_le i j = let own = least_le (λ d. limit i (j + d)) (n - suc j) 0 (omega arith) in rw add-zero at own

  -- the longest group keeps its limit
  pub lowered_last : (i j : ℕ) → suc j ≡ n → lowered limit n i j ≡ limit i j
  unfolding lowered least_up_to
  lowered_last i j e =
      let none : n - suc j ≡ 0 = omega arith in ap (least_up_to (λ d. limit i (j + d))) none ∙ ap (limit i) (add-zero j)

  pub lowered_next : (i j : ℕ) → suc j < n → lowered limit n i j ≡ min (limit i j) (lowered limit n i (suc j))
  unfolding lowered
  lowered_next i j h =
      le_antisymm (le-min (lowered_le i j) (lowered_grows i j h)) (le_least (λ d. limit i (j + d)) (n - suc j) _ each)
    where
      each : (d : ℕ) → d ≤ n - suc j → min (limit i j) (lowered limit n i (suc j)) ≤ limit i (j + d)
      each zero hd = le_trans (min-le_left _ _) (le_of_eq (ap (limit i) (sym (add-zero j))))
      each (suc d) hd =
          le_trans (min-le_right _ _)
          (le_trans (least_le (λ e. limit i (suc j + e)) (n - suc (suc j)) d (omega arith))
          (le_of_eq (ap (limit i) (suc-add j d ∙ sym (add-suc j d)))))
