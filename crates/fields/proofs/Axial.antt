-- The axial force as a number of the file: by the force's sign and size, the force of an even number and of an odd one, and that the two
-- forms undo one another. By cases on the sign. Assumes nothing.
use Prim.Native.Nat.{ℕ, ◌+◌, ◌*◌, ◌-◌, ◌/◌, ◌%◌}
use mathlib.Core.Path.{◌≡◌, refl, ap, ◌∙◌}
use mathlib.Core.Bool.{Bool, true, false, cond}
use native.Mathlib.Omega.{arith}
use borrow.Author.Tests.{eq-eqb, ne_eqb, eqb-true, eqb-false}
use lib.Dec.{eqb}
use lib.IntN.{ℤ, pos, negsuc, nat_abs}
use lib.Signed.{lt_z}
use Rattle.joint.proofs.Signs.{by_sign}
use Rattle.fields.specs.Fields.{stored_axial, axial_of}

-- by the machine's test of the sign
pub stored_by_sign : (z : ℤ) → stored_axial z ≡ cond (lt_z z (pos 0)) (2 * (nat_abs z - 1) + 1) (2 * nat_abs z)
unfolding stored_axial
stored_by_sign z = by_sign stored_axial (λ n. 2 * n) (λ n. 2 * (n - 1) + 1) (λ n. refl) (λ n. omega arith) z

pub axial_even : (x : ℕ) → x % 2 ≡ 0 → axial_of x ≡ pos (x / 2)
unfolding axial_of
axial_even x even = simp (eq-eqb (x % 2) 0 even)

pub axial_odd : (x : ℕ) → (x % 2 ≡ 0 → ⊥) → axial_of x ≡ negsuc (x / 2)
unfolding axial_of
axial_odd x odd = simp (ne_eqb (x % 2) 0 odd)

pub axial_stored : (z : ℤ) → axial_of (stored_axial z) ≡ z
unfolding stored_axial
axial_stored (pos n) = axial_even (2 * n) (omega arith) ∙ ap pos (omega arith)
axial_stored (negsuc n) = axial_odd (2 * n + 1) (λ e. omega arith) ∙ ap negsuc (omega arith)

pub stored_axial-axial_of : (x : ℕ) → stored_axial (axial_of x) ≡ x
unfolding stored_axial
stored_axial-axial_of x = go (eqb (x % 2) 0) refl
  where
    go : (t : Bool) → eqb (x % 2) 0 ≡ t → stored_axial (axial_of x) ≡ x
    go true e =
        let even : x % 2 ≡ 0 = eqb-true (x % 2) 0 e in
        rw (axial_even x even) (omega arith)
    go false e =
        let odd : x % 2 ≡ 1 = omega (arith, eqb-false (x % 2) 0 e) in
        rw (axial_odd x (eqb-false (x % 2) 0 e)) (omega arith)
