-- The limits that a triangle adds. They are on rows below the reference, and a row's force goes by groups that begin at it or above: so rows
-- down to the reference keep theirs. And a list competes with the added limits exactly when it competes without and keeps them, since the
-- group of one row is that row's force. Assumes nothing.
use Rattle.std.specs.Prelude.{Option, None, Some}
use mathlib.Core.Path.{◌≡◌, refl, sym, ap, ap₂, ◌∙◌}
use mathlib.Core.Logic.{◌↔◌}
use mathlib.Core.Bool.{Bool, true, false, cond, ◌&&◌}
use Prim.Native.Nat.{ℕ, ◌≤◌, ◌<◌, min}
use native.Mathlib.Nat.{le_refl, le_trans, min-le_left, le-min}
use native.Mathlib.Omega.{arith}
use mathlib.Core.List.{List}
use lib.ListN.{get_or}
use lib.Dec.{eqb, ltb}
use borrow.Author.Tests.{eq-eqb, eqb-true, lt-ltb, ltb-true}
use Rattle.sharing.specs.Groups.{Table, total, group_sum, with_cap}
use Rattle.sharing.specs.Sharing.{shared, Competes}
use Rattle.sharing.specs.Triangle.{Triangle, added_limit, with_added, reference_force, limits_in, KeepsAdded, KeepsTriangle}
use Rattle.sharing.specs.Triangle.{ReferenceStays, NoneBelowReference}
use Rattle.sharing.proofs.Totals.{one_row}
use Rattle.sharing.proofs.Cap.{cap_is_a_limit}
use Rattle.sharing.proofs.Agreement.{rows_agree, force_agrees, shared_agrees}

module _ (t : Triangle) (force : ℕ) (limit : Table) where
  -- a longer group, or a row that isn't below the reference
  pub added_elsewhere : (i j : ℕ) → (t.reference < i → i ≡ j → ⊥) → with_added t force limit i j ≡ limit i j
  unfolding with_added
  added_elsewhere i j other = go (ltb t.reference i) (eqb i j) refl refl
    where
      go : (s e : Bool) → ltb t.reference i ≡ s → eqb i j ≡ e
          → cond (s && e) (min (limit i j) (added_limit t force i)) (limit i j) ≡ limit i j
      go true true es ee = absurd (other (ltb-true _ _ es) (eqb-true _ _ ee))
      go true false es ee = refl
      go false e es ee = refl

  pub added_on_row : (row : ℕ) → t.reference < row → with_added t force limit row row ≡ min (limit row row) (added_limit t force row)
  unfolding with_added
  added_on_row row below = rw (lt-ltb t.reference row below, eq-eqb row row refl) refl

  pub added_le : (i j : ℕ) → with_added t force limit i j ≤ limit i j
  unfolding with_added
  added_le i j = go (ltb t.reference i && eqb i j)
    where
      go : (s : Bool) → cond s (min (limit i j) (added_limit t force i)) (limit i j) ≤ limit i j
      go true = min-le_left _ _
      go false = le_refl _

pub reference_stays : (t : Triangle) (force : ℕ) (limit : Table) (n : ℕ) → ReferenceStays t force limit n
reference_stays t force limit n k above =
    rows_agree (with_added t force limit) limit n k (λ i j early h inside. added_elsewhere t force limit i j (λ below same. omega arith))

-- so the reference row's force is the same in both sharings
pub reference_force_stays : (t : Triangle) (force : ℕ) (limit : Table) (n : ℕ)
    → get_or (shared (with_added t force limit) n) t.reference 0 ≡ reference_force t limit n
reference_force_stays t force limit n =
    force_agrees (with_added t force limit) limit n t.reference (λ i j early h inside. added_elsewhere t force limit i j (λ below same. omega arith))

-- keeping the added limits is keeping them as limits of groups
module _ (t : Triangle) (force : ℕ) (limit : Table) (n : ℕ) (forces : List ℕ) where
  le_added : Competes limit n forces → KeepsAdded t force n forces → (i j : ℕ) → i ≤ j → j < n
      → group_sum forces i j ≤ with_added t force limit i j
  unfolding with_added
  le_added c kept i j h inside = go (ltb t.reference i) (eqb i j) refl refl
    where
      go : (s e : Bool) → ltb t.reference i ≡ s → eqb i j ≡ e
          → group_sum forces i j ≤ cond (s && e) (min (limit i j) (added_limit t force i)) (limit i j)
      go true true es ee =
          let own : group_sum forces i j ≡ get_or forces i 0 = ap (group_sum forces i) (sym (eqb-true _ _ ee)) ∙ one_row forces i in
          le-min (c.keeps i j h inside) (rw own (kept i (ltb-true _ _ es) (omega arith)))
      go true false es ee = c.keeps i j h inside
      go false e es ee = c.keeps i j h inside

  pub added_are_limits : Competes (with_added t force limit) n forces ↔ (Competes limit n forces × KeepsAdded t force n forces)
  added_are_limits = (
    (λ c. (
      record { rows = c.rows; keeps = λ i j h inside. le_trans (c.keeps i j h inside) (added_le t force limit i j) },
      (λ row below inside.
          let kept = c.keeps row row (le_refl row) inside in
          omega (arith, one_row forces row, added_on_row t force limit row below)),
    )),
    (λ c. record { rows = c.0.rows; keeps = le_added c.0 c.1 }),
  )

-- A list competes under the limits in a triangle, or without, exactly when it competes under the limits and keeps those that are added,
-- worked from the shared list.
triangle_is_limits : (triangle : Option Triangle) (limit : Table) (n : ℕ) (forces : List ℕ)
    → Competes (limits_in triangle limit n) n forces
    ↔ (Competes limit n forces × KeepsTriangle triangle n (shared (limits_in triangle limit n) n) forces)
triangle_is_limits None limit n forces = ((λ c. (c, tt)), (λ both. both.0))
triangle_is_limits (Some t) limit n forces = rw (reference_force_stays t _ limit n) (added_are_limits t _ limit n forces)

-- with the cap among the limits (rule 6.3), what competes keeps all three
pub all_are_limits : (triangle : Option Triangle) (limit : Table) (n cap : ℕ) (forces : List ℕ)
    → Competes (limits_in triangle (with_cap limit n cap) n) n forces
    ↔ (Competes limit n forces × (total forces ≤ cap)
    × KeepsTriangle triangle n (shared (limits_in triangle (with_cap limit n cap) n) n) forces)
all_are_limits triangle limit n cap forces =
    let hung = triangle_is_limits triangle (with_cap limit n cap) n forces in
    let capped = cap_is_a_limit limit n cap forces in (
      (λ c. let within = capped.0 (hung.0 c).0 in (within.0, within.1, (hung.0 c).1)),
      (λ c. hung.1 (capped.1 (c.0, c.1), c.2)),
    )

-- tables that agree share alike in a triangle too
pub shared_in_agrees : (triangle : Option Triangle) (limit other : Table) (n : ℕ)
    → ((i j : ℕ) → i ≤ j → j < n → limit i j ≡ other i j)
    → shared (limits_in triangle limit n) n ≡ shared (limits_in triangle other n) n
unfolding with_added
shared_in_agrees None limit other n same = shared_agrees limit other n same
shared_in_agrees (Some t) limit other n same =
    let force : reference_force t limit n ≡ reference_force t other n = ap (λ xs. get_or xs t.reference 0) (shared_agrees limit other n same) in
    shared_agrees _ _ n
    (λ i j h inside. ap₂ (λ f l. cond (ltb t.reference i && eqb i j) (min l (added_limit t f i)) l) force (same i j h inside))

pub none_below_reference : (t : Triangle) (limit : Table) (n : ℕ) → NoneBelowReference t limit n
none_below_reference t limit n few = shared_agrees _ limit n (λ i j h inside. added_elsewhere t _ limit i j (λ below same. omega arith))
