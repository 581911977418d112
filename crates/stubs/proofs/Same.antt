-- What comes of the figures is what the rules say: each product is theirs in another order, and of two webs the lesser has the lesser
-- tension. Assumes nothing.
use mathlib.Core.Path.{◌≡◌, refl, sym, ap, ◌∙◌}
use Prim.Native.Nat.{ℕ, ◌+◌, ◌*◌, ◌/◌, ◌≤◌, ◌<◌, min}
use mathlib.Core.Logic.{⊎_elim}
use native.Mathlib.Nat.{mul_assoc, mul_comm, mul_right_comm, mul-le-mul_left}
use native.Mathlib.Omega.{arith}
use Rattle.arithmetic.proofs.Bounds.{div_mono}
use Rattle.arithmetic.proofs.Tests.{split}
use Rattle.stubs.specs.Bending.{effective_length, bending}
use Rattle.stubs.specs.Web.{web_tension}
use Rattle.stubs.specs.Worked.{stub_of, lengths_of, length_by, bending_by, web_by}

pub bending-worked : (m n t y W k L : ℕ) → bending_by (stub_of m n t y W) W k L ≡ bending m n t y W k L
unfolding bending_by bending
bending-worked m n t y W k L =
    let flexure : L * (t * t * y) ≡ L * (t * t) * y = sym (mul_assoc L (t * t) y) in
    let prying : k * (200 * n * W) ≡ 200 * n * k * W = mul_comm k (200 * n * W) ∙ mul_right_comm (200 * n) W k in
    rw (flexure, prying)

pub web_worked : (g s t y : ℕ) → web_by (173 * g) s (t * y) ≡ web_tension g s t y
unfolding web_tension
web_worked g s t y = ap (λ p. p / 10000) (sym (mul_assoc (173 * g + 100 * s) t y))

-- of two webs the lesser has the lesser tension
pub lesser_web : (web_length s a b : ℕ) → web_by web_length s (min a b) ≡ min (web_by web_length s a) (web_by web_length s b)
lesser_web web_length s a b =
    let more = λ (x y : ℕ) (h : x ≤ y). div_mono 10000 (mul-le-mul_left (web_length + 100 * s) h) in
    ⊎_elim
    (λ (h : a < b). let least : min a b ≡ a = omega arith in rw least (omega (arith, more a b (omega arith))))
    (λ (h : b ≤ a). let least : min a b ≡ b = omega arith in rw least (omega (arith, more b a h)))
    (split a b)

pub length-worked : (m e s : ℕ) → length_by (lengths_of m e).circular (lengths_of m e).side s ≡ effective_length m e s
length-worked m e s = refl
