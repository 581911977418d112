-- The greatest number that a test lets pass: by its property, and by a search that antt can run. The search settles one binary digit
-- after the other, the highest first; that it has the property is a law of proofs/Greatest.antt. Assumes nothing.
use Rattle.std.specs.Prelude.{ℕ, zero, suc, ◌+◌, ◌^◌, ◌≤◌, Bool, cond, leb}

-- w passes, and nothing greater does
pub record Greatest (Passes : ℕ → Type 0) (w : ℕ) : Type 0 where
  pub passes : Passes w
  pub greatest : (v : ℕ) → Passes v → v ≤ w

-- the greatest number from `found` to `found + 2 ^ digits - 1` that passes a test that holds up to some number and no further
unfoldable pub search_from : (ℕ → Bool) → ℕ → ℕ → ℕ
search_from test zero found = found
search_from test (suc digits) found = search_from test digits (cond (test (found + 2 ^ digits)) (found + 2 ^ digits) found)

-- the greatest w of so many binary digits with f w at most the limit
abbrev pub greatest : (digits : ℕ) → (ℕ → ℕ) → ℕ → ℕ
greatest digits f limit = search_from (λ (w : ℕ). leb (f w) limit) digits 0
