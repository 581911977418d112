-- Web buckling, before a near column end reduces it, is the greatest w with 16×dc×w² at most its limit, and the only such number; the
-- integer root of the limit over 16×dc is that number. Assumes nothing.
use mathlib.Core.Path.{◌≡◌, refl, sym, ap, ◌∙◌}
use mathlib.Core.Bool.{Bool, true, false, cond}
use Prim.Native.Nat.{ℕ, ◌*◌, ◌/◌, ◌^◌, ◌≤◌, ◌<◌, zero-le}
use Rattle.std.proofs.Common.{Some, None, unwrap_or}
use native.Mathlib.Nat.{mul-zero, mul_assoc, one-mul, pow-suc, pow-zero, mul-le-mul, mul-le-mul_left}
use native.Mathlib.Omega.{arith}
use lib.Dec.{eqb}
use lib.Pow.{pow-add}
use borrow.Author.Tests.{eqb-true}
use Rattle.arithmetic.specs.Greatest.{search_from}
use Rattle.arithmetic.proofs.Bounds.{exactly, ◌⊗◌}
use Rattle.arithmetic.proofs.Greatest.{only_one, is_greatest, greatest_below, unscaled}
use Rattle.joint.specs.Ranges.{webs}
use Rattle.joint.specs.declared.Column.{Column}
use Rattle.compression.specs.Root.{square_root, root_case}
use Rattle.strength.specs.InRange.{yield_strengths}
use Rattle.compression.specs.Compression.{IsWebBuckling, buckling_limit, web_buckling}
use Rattle.compression.specs.InRange.{bearing_lengths, ColumnWebParts}

square : (t : ℕ) → t ^ 2 ≡ t * t
square t = pow-suc t 1 ∙ ap (λ (s : ℕ). s * t) (pow-suc t 0 ∙ ap (λ (s : ℕ). s * t) (pow-zero t) ∙ one-mul t)

-- the fourth power as the code works it
fourth : (a t : ℕ) → a * (t * t) * (t * t) ≡ a * t ^ 4
fourth a t = mul_assoc a (t * t) (t * t) ∙ ap (λ (s : ℕ). a * s) (sym (pow-add t 2 2 ∙ rw (square t)))

root_of_zero : square_root 0 ≡ 0
unfolding square_root search_from
root_of_zero = refl

-- a search of 32 binary digits finds no more
pub buckling_small : (b yc : ℕ) (column : Column) → web_buckling b yc column < 2 ^ 32
unfolding web_buckling
buckling_small b yc column = greatest_below 32 (λ (w : ℕ). 16 * column.clear * (w * w)) (buckling_limit b yc column)

-- the root of a case is the root
case_root : (x : ℕ) → unwrap_or (root_case x) 0 ≡ square_root x
unfolding root_case
case_root x = either (eqb x 0) refl
  where
    either : (zero : Bool) → eqb x 0 ≡ zero → unwrap_or (cond zero None (Some (square_root x))) 0 ≡ square_root x
    either true e = sym (ap square_root (eqb-true x 0 e) ∙ root_of_zero)
    either false e = refl

module _ (b yc : ℕ) (column : Column) (r : ColumnWebParts b yc column) where
  -- the root of the limit over 16×dc, as the code works it
  pub buckling_root :
      unwrap_or (root_case (275 * b * yc * (column.web * column.web) * (column.web * column.web) / (16 * column.clear))) 0
      ≡ web_buckling b yc column
  unfolding square_root web_buckling buckling_limit
  buckling_root =
      case_root _
      ∙ ap (λ (limit : ℕ). square_root (limit / (16 * column.clear))) (fourth (275 * b * yc) column.web)
      ∙ unscaled 32 (λ (w : ℕ). w * w) (buckling_limit b yc column) (16 * column.clear) (omega (arith, r.column.clear.low))

  limit_le : buckling_limit b yc column ≤ 275 * bearing_lengths.high * yield_strengths.high * webs.high ^ 4
  unfolding buckling_limit
  limit_le =
      let squared = r.column.web ⊗ r.column.web in
      (rw (fourth (275 * b * yc) column.web) at (exactly 275 ⊗ r.bearing_length ⊗ r.strength ⊗ squared ⊗ squared)).high

  pub buckling_greatest : IsWebBuckling b yc column (web_buckling b yc column)
  unfolding web_buckling
  buckling_greatest =
      is_greatest (λ (w : ℕ). 16 * column.clear * (w * w)) (buckling_limit b yc column) 32
      (λ v w h. mul-le-mul_left (16 * column.clear) (mul-le-mul h h)) (rw (mul-zero (16 * column.clear)) zero-le)
      (omega (arith, limit_le, r.column.clear.low))

  pub buckling_only : (w : ℕ) → IsWebBuckling b yc column w → w ≡ web_buckling b yc column
  buckling_only w h = only_one h buckling_greatest
