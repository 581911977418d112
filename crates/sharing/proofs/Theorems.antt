-- The theorems of demand 3 for any count of rows and any table of limits: the shared forces compete, they are the best, and no other
-- list is.
-- A list that competes keeps the lowered limits too, since no force is below zero; so each of its sums from the top is one
-- that no group forbids, and the shared sums are the greatest of those. Assumes nothing.
use mathlib.Core.Path.{◌≡◌, refl, sym, ap, ◌∙◌}
use mathlib.Core.Logic.{◌↔◌}
use mathlib.Core.Bool.{Bool, true, false}
use Prim.Native.Nat.{ℕ, suc, ◌+◌, ◌-◌, ◌≤◌, ◌<◌, min}
use native.Mathlib.Nat.{le_refl, le_antisymm, zero-mul, zero-add}
use native.Mathlib.Omega.{arith}
use mathlib.Core.List.{List}
use lib.ListN.{take, get_or}
use Rattle.sharing.specs.Groups.{Table, total, group_sum}
use Rattle.sharing.specs.Sharing.{lowered, shared, Competes, moment, Falling}
use Rattle.sharing.specs.Best.{Best}
use Rattle.sharing.proofs.Least.{le_least}
use Rattle.sharing.proofs.Totals.{total-take_le, take_rows, sums_determine, above_and_group}
use Rattle.sharing.proofs.Lowering.{lowered_le}
use Rattle.sharing.proofs.Sums.{sum_down_to, length_forces, sum_shared, sum_inside, sum_le, sums_within}
use Rattle.sharing.proofs.Moments.{falling_from, moment_le, moment_eq}

module _ (limit : Table) (n : ℕ) where
  pub shared_competes : Competes limit n (shared limit n)
  unfolding shared
  shared_competes =
      record {
        rows = length_forces limit n n;
        keeps = λ i j h inside.
            let sum = above_and_group (shared limit n) i j h in
            let rows : i ≤ n = omega arith in
            omega (arith, sum_inside limit n i rows, sum_inside limit n (suc j) inside, sum_le limit n j i inside h, lowered_le limit n i j);
      }

  module _ (other : List ℕ) (c : Competes limit n other) where
    -- a list that competes keeps the lowered limits
    keeps_lowered : (i j : ℕ) → i ≤ j → j < n → group_sum other i j ≤ lowered limit n i j
    unfolding lowered
    keeps_lowered i j h inside =
        le_least (λ d. limit i (j + d)) (n - suc j) _
        (λ d hd.
        let short = above_and_group other i j h in
        let long = above_and_group other i (j + d) (omega arith) in
        let grows = total-take_le other (suc j) d in
        let same : suc j + d ≡ suc (j + d) = omega arith in
        let kept = c.keeps i (j + d) (omega arith) (omega arith) in
        omega (arith, ap (λ k. total (take k other)) same))

    sum_le_inside : (k : ℕ) → k ≤ n → total (take k other) ≤ sum_down_to limit n k
    sum_le_inside k inside =
        let within = sums_within limit n (λ m. total (take m other)) 0 (omega arith)
        (λ k i h under above. omega (arith, keeps_lowered i k h under, above_and_group other i k h)) k inside in
        omega arith

    pub sum_le_shared : (k : ℕ) → total (take k other) ≤ total (take k (shared limit n))
    sum_le_shared k =
        omega (arith, ap total (take_rows other n k c.rows), sum_shared limit n k, sum_le_inside (min k n) (omega arith))

    module _ (levers : List ℕ) (f : Falling levers n) where
      ahead : (k : ℕ) → total (take k other) ≤ 0 + total (take k (shared limit n))
      ahead k = rw zero-add (sum_le_shared k)

      pub moment_le_shared : moment levers other ≤ moment levers (shared limit n)
      moment_le_shared =
          let m = moment_le levers (shared limit n) other 0 _ (falling_from levers n _ f (le_refl _)) (shared_competes.rows ∙ sym f.rows)
          (c.rows ∙ sym f.rows) ahead in
          omega (arith, zero-mul (get_or levers 0 0))

      pub same_exactly : (other ≡ shared limit n) ↔ (moment levers other ≡ moment levers (shared limit n))
      same_exactly = (
        (λ e. ap (moment levers) e),
        (λ e. (moment_eq levers (shared limit n) other 0 (suc (get_or levers 0 0)) (falling_from levers n _ f (omega arith)) (omega arith)
            (shared_competes.rows ∙ sym f.rows) (c.rows ∙ sym f.rows) ahead
            (omega (arith, e, zero-mul (suc (get_or levers 0 0))))).1),
      )

  -- no list but the shared one has the largest sums: demand 3 alone determines the forces
  pub largest_is_shared : (forces : List ℕ) → Competes limit n forces
      → ((other : List ℕ) → Competes limit n other → (k : ℕ) → total (take k other) ≤ total (take k forces)) → forces ≡ shared limit n
  largest_is_shared forces c largest =
      sums_determine forces (shared limit n) (c.rows ∙ sym shared_competes.rows)
      (λ k. le_antisymm (sum_le_shared forces c k) (largest (shared limit n) shared_competes k))

  pub best_is_shared : (forces : List ℕ) → Best limit n forces → forces ≡ shared limit n
  best_is_shared forces b = largest_is_shared forces b.competes b.sums

  not_passed : (smaller larger : Bool) → (smaller ≡ true → larger ≡ true) → larger ≡ false → smaller ≡ false
  not_passed true larger up fail = sym (up refl) ∙ fail
  not_passed false larger up fail = refl

  pub best : Best limit n (shared limit n)
  best =
      record {
        competes = shared_competes;
        sums = sum_le_shared;
        moments = λ levers f other c. moment_le_shared other c levers f;
        same = λ levers f other c. same_exactly other c levers f;
        fails = λ levers f passes m. (
          (λ fail other c. not_passed (passes (moment levers other)) (passes (moment levers (shared limit n)))
              (m.larger _ _ (moment_le_shared other c levers f)) fail),
          (λ all. all (shared limit n) shared_competes),
        );
      }
