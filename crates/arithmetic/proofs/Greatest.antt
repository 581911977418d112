-- The greatest number that passes: there is only one, and the search by binary digits finds it for every limit on a
-- rising figure. The search keeps a number that passes, below one that doesn't, and halves the way between. Assumes nothing.
use mathlib.Core.Path.{◌≡◌, refl, sym, ap, subst, fun_ext, ◌∙◌}
use mathlib.Core.Bool.{Bool, true, false, cond}
use Prim.Native.Nat.{ℕ, zero, suc, ◌+◌, ◌*◌, ◌/◌, ◌^◌, ◌≤◌, ◌<◌}
use native.Mathlib.Nat.{le_antisymm, le_trans, lt_irrefl, lt_of_lt_of_le, lt_of_not-le, add_assoc, zero-add, mul_comm, two-pow-succ}
use native.Mathlib.Nat.{le-div_iff_mul-le, div-lt_iff_lt-mul}
use native.Mathlib.Decide.{dec_le}
use native.Mathlib.Omega.{arith}
use native.Mathlib.Numerals.{add-one}
use borrow.Author.Tests.{le-leb, lt-leb}
use lib.Dec.{T, leb, leb→le, le→leb}
use Rattle.arithmetic.specs.Greatest.{Greatest, search_from, greatest}

pub only_one : {Passes : ℕ → Type 0} {v w : ℕ} → Greatest Passes v → Greatest Passes w → v ≡ w
only_one {v = v} {w = w} p q = le_antisymm (q.greatest v p.passes) (p.greatest w q.passes)

module _ (test : ℕ → Bool) where
  -- r passes, and the next number doesn't
  Edge : ℕ → Type 0
  Edge r = T (test r) × (T (test (r + 1)) → ⊥)

  -- half the way: the search goes on from the middle where that passes, and else below it
  halved : (digits found : ℕ) (passes : Bool) → test (found + 2 ^ digits) ≡ passes → T (test found) →
      (T (test (found + 2 ^ digits + 2 ^ digits)) → ⊥) →
      ((from : ℕ) → T (test from) → (T (test (from + 2 ^ digits)) → ⊥) → Edge (search_from test digits from)) →
      Edge (search_from test digits (cond passes (found + 2 ^ digits) found))
  halved digits found true e p q rest = rest (found + 2 ^ digits) (subst (λ (b : Bool). T b) (sym e) tt) q
  halved digits found false e p q rest = rest found p (λ (t : T (test (found + 2 ^ digits))). subst (λ (b : Bool). T b) e t)

  searched : (digits found : ℕ) → T (test found) → (T (test (found + 2 ^ digits)) → ⊥) → Edge (search_from test digits found)
  unfolding Edge search_from
  searched zero found p q = (p, q)
  searched (suc digits) found p q =
      halved digits found (test (found + 2 ^ digits)) refl p (rw (two-pow-succ, ← add_assoc) at q) (searched digits)

  -- half the way: from the middle or from below it, the search ends below the same number
  halved_below : (digits found : ℕ) (passes : Bool) → ((from : ℕ) → search_from test digits from < from + 2 ^ digits)
      → search_from test digits (cond passes (found + 2 ^ digits) found) < found + 2 ^ suc digits
  halved_below digits found true rest = omega (arith, rest (found + 2 ^ digits), two-pow-succ digits)
  halved_below digits found false rest = omega (arith, rest found, two-pow-succ digits)

  below : (digits found : ℕ) → search_from test digits found < found + 2 ^ digits
  unfolding search_from
  below zero found = omega arith
  below (suc digits) found = halved_below digits found (test (found + 2 ^ digits)) (below digits)

-- no more binary digits than were asked for
pub greatest_below : (digits : ℕ) (f : ℕ → ℕ) (limit : ℕ) → greatest digits f limit < 2 ^ digits
greatest_below digits f limit = rw zero-add at (below (λ (w : ℕ). leb (f w) limit) digits 0)

-- a rising f, within the limit at 0 and above it at 2 ^ digits
module _ (f : ℕ → ℕ) (limit digits : ℕ) (rises : (v w : ℕ) → v ≤ w → f v ≤ f w) (start : f 0 ≤ limit) (above : limit < f (2 ^ digits)) where
  pub is_greatest : Greatest (λ (w : ℕ). f w ≤ limit) (greatest digits f limit)
  unfolding Edge
  is_greatest = record {
    passes = leb→le (f found) limit edge.0;
    greatest = λ v h. no_more v h (dec_le v found);
  }
    where
      found : ℕ
      found = greatest digits f limit

      edge : Edge (λ (w : ℕ). leb (f w) limit) found
      edge =
          searched (λ (w : ℕ). leb (f w) limit) digits 0 (le→leb (f 0) limit start)
          (λ (t : T (leb (f (0 + 2 ^ digits)) limit)).
          lt_irrefl limit (lt_of_lt_of_le above (leb→le (f (2 ^ digits)) limit (rw zero-add at t))))

      no_more : (v : ℕ) → f v ≤ limit → Dec (v ≤ found) → v ≤ found
      no_more v h (yes p) = p
      no_more v h (no p) = absurd (edge.1 (le→leb (f (found + 1)) limit (le_trans (rises (found + 1) v (rw add-one (lt_of_not-le p))) h)))

-- a limit may be divided by a factor of the figure, rounded down
pub unscaled : (digits : ℕ) (f : ℕ → ℕ) (limit k : ℕ) → 0 < k → greatest digits f (limit / k) ≡ greatest digits (λ (w : ℕ). k * f w) limit
unscaled digits f limit k p =
    ap (λ (test : ℕ → Bool). search_from test digits 0) (fun_ext (λ (w : ℕ). same (f w) (dec_le (f w) (limit / k))))
  where
    same : (a : ℕ) → Dec (a ≤ limit / k) → leb a (limit / k) ≡ leb (k * a) limit
    same a (yes h) = le-leb a (limit / k) h ∙ sym (le-leb (k * a) limit (rw (mul_comm k a) ((le-div_iff_mul-le p).0 h)))
    same a (no q) =
        lt-leb a (limit / k) (lt_of_not-le q) ∙ sym (lt-leb (k * a) limit (rw (mul_comm k a) ((div-lt_iff_lt-mul p).0 (lt_of_not-le q))))
