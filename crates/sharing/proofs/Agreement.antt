-- Tables that agree on the groups that begin in the first k rows give these rows the same forces: lowering looks at groups that begin
-- at one row, and a row's force at those that begin there or above. So tables that agree on every group share alike.
-- Assumes nothing.
use mathlib.Core.Path.{◌≡◌, refl, sym, ap, ap₂, ◌∙◌}
use Prim.Native.Nat.{ℕ, zero, suc, ◌+◌, ◌-◌, ◌≤◌, ◌<◌, min}
use native.Mathlib.Nat.{le_refl, le_step}
use native.Mathlib.Omega.{arith}
use mathlib.Core.List.{List, [], ◌∷◌, ◌++◌}
use lib.ListN.{length, take, drop, get_or}
use lib.Seq.{get_or-take}
use Rattle.sharing.specs.Groups.{Table, total}
use Rattle.sharing.specs.Sharing.{least_up_to, lowered, next_force, forces_down_to, shared}
use Rattle.sharing.proofs.Sums.{length_forces, take_shared}

least_agrees : (f g : ℕ → ℕ) (k : ℕ) → ((i : ℕ) → i ≤ k → f i ≡ g i) → least_up_to f k ≡ least_up_to g k
unfolding least_up_to
least_agrees f g zero same = same 0 (le_refl 0)
least_agrees f g (suc k) same = ap₂ min (least_agrees f g k (λ i h. same i (le_step h))) (same (suc k) (le_refl (suc k)))

module _ (limit other : Table) (n : ℕ) where
  pub lowered_agrees : (i j : ℕ) → j < n → ((last : ℕ) → j ≤ last → last < n → limit i last ≡ other i last)
      → lowered limit n i j ≡ lowered other n i j
  unfolding lowered
  lowered_agrees i j inside same = least_agrees _ _ (n - suc j) (λ d hd. same (j + d) (omega arith) (omega arith))

  module _ (k : ℕ) (same : (i j : ℕ) → i < k → i ≤ j → j < n → limit i j ≡ other i j) where
    next_agrees : (above : List ℕ) → length above < k → length above < n → next_force limit n above ≡ next_force other n above
    unfolding next_force
    next_agrees above early inside =
        least_agrees _ _ (length above)
        (λ i h. ap (λ l. l - total (drop i above))
        (lowered_agrees i (length above) inside (λ last hl under. same i last (omega arith) (omega arith) under)))

    forces_agree : (m : ℕ) → m ≤ k → m ≤ n → forces_down_to limit n m ≡ forces_down_to other n m
    unfolding forces_down_to
    forces_agree zero early h = refl
    forces_agree (suc m) early h =
        let above = forces_agree m (omega arith) (omega arith) in
        let got = forces_down_to limit n m in
        let next = next_agrees got (omega (arith, length_forces limit n m)) (omega (arith, length_forces limit n m)) in
        ap₂ (λ forces force. forces ++ (force ∷ [])) above (next ∙ ap (next_force other n) above)

    pub rows_agree : take k (shared limit n) ≡ take k (shared other n)
    rows_agree = take_shared limit n k ∙ forces_agree (min k n) (omega arith) (omega arith) ∙ sym (take_shared other n k)

  -- the force of row k
  pub force_agrees : (k : ℕ) → ((i j : ℕ) → i < suc k → i ≤ j → j < n → limit i j ≡ other i j)
      → get_or (shared limit n) k 0 ≡ get_or (shared other n) k 0
  force_agrees k same =
      sym (get_or-take (suc k) (shared limit n) k 0 (omega arith))
      ∙ ap (λ xs. get_or xs k 0) (rows_agree (suc k) same)
      ∙ get_or-take (suc k) (shared other n) k 0 (omega arith)

  pub shared_agrees : ((i j : ℕ) → i ≤ j → j < n → limit i j ≡ other i j) → shared limit n ≡ shared other n
  unfolding shared
  shared_agrees same = forces_agree n (λ i j early. same i j) n (le_refl n) (le_refl n)
