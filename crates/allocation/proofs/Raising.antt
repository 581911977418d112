-- How far one limit moves what Allocate answers (rule 7.3): of two calls that refuse nothing, the second with one group limit raised.
-- The list with that limit stored is the table with that limit raised, and what each call answers is the shared list of its table.
-- Assumes nothing.
use mathlib.Core.Path.{◌≡◌, refl, sym, ap₂, ◌∙◌}
use mathlib.Core.Bool.{Bool, true, false, cond, ◌&&◌}
use Prim.Native.Nat.{ℕ, ◌+◌, ◌≤◌, ◌<◌}
use native.Mathlib.Omega.{arith}
use mathlib.Core.List.{List}
use lib.ListN.{length}
use lib.Dec.{eqb}
use borrow.Author.Tests.{eqb-true, eqb-false}
use Rattle.sharing.specs.Groups.{group_count, listed}
use Rattle.sharing.specs.Raising.{Raise, raised}
use Rattle.sharing.proofs.Places.{stored_same, stored_other}
use Rattle.sharing.proofs.Agreement.{shared_agrees}
use Rattle.sharing.proofs.Raising.{moves_within}
use Rattle.allocation.specs.Raising.{raised_limits, AllocateMovesWithin}
use Rattle.allocation.proofs.Answers.{not_refused}

-- the table of the raised list, group by group
raised-listed : (raise : Raise) (n : ℕ) (limits : List ℕ) → raise.first ≤ raise.last → raise.last < n → group_count n ≤ length limits
    → (i j : ℕ) → i ≤ j → j < n → listed n (raised_limits raise n limits) i j ≡ raised raise (listed n limits) i j
unfolding raised_limits raised listed
raised-listed raise n limits group inside enough i j h under = go (eqb i raise.first) (eqb j raise.last) refl refl
  where
    other : ((i ≡ raise.first) × (j ≡ raise.last) → ⊥) → listed n (raised_limits raise n limits) i j ≡ listed n limits i j
    other = stored_other n raise.first raise.last _ _ limits group inside (omega arith) i j h under

    go : (s t : Bool) → eqb i raise.first ≡ s → eqb j raise.last ≡ t
        → listed n (raised_limits raise n limits) i j ≡ cond (s && t) (listed n limits i j + raise.newtons) (listed n limits i j)
    go true true es et =
        let first = eqb-true _ _ es in
        let last = eqb-true _ _ et in
        stored_same n raise.first raise.last _ _ limits group inside (omega arith) enough i j first last
        ∙ ap₂ (λ row end. listed n limits row end + raise.newtons) (sym first) (sym last)
    go true false es et = other (λ same. eqb-false _ _ et same.1)
    go false t es et = other (λ same. eqb-false _ _ es same.0)

pub allocate_moves_within : (raise : Raise) (n : ℕ) (limits : List ℕ) → AllocateMovesWithin raise n limits
allocate_moves_within raise n limits group inside none none_after =
    let before = not_refused n limits _ refl none in
    let after = not_refused n (raised_limits raise n limits) _ refl none_after in
    let same = shared_agrees _ (raised raise (listed n limits)) n (raised-listed raise n limits group inside before.0) in
    rw (before.1, after.1, same) (moves_within raise (listed n limits) n)
