-- A rule of a table, shown by one test that antt computes over all entries and carried to each: by its place in a list, or by its key.
-- Assumes nothing.
use mathlib.Core.Path.{◌∙◌, subst, sym}
use mathlib.Core.Bool.{Bool, true, false, cond, ◌&&◌, ◌||◌}
use mathlib.Core.List.{List, [], ◌∷◌}
use Prim.Native.Nat.{ℕ, zero, suc, ◌+◌, ◌<◌}
use native.Mathlib.Nat.{add-zero, zero-add, add-suc, suc-add, le_of_suc-le-suc, not-suc-le-zero}
use lib.Dec.{T}
use lib.ListN.{length, get_or}
use mir.Facts.{and_yes}
use Rattle.arithmetic.specs.Table.{every, any, find}

from : (f : ℕ → ℕ → Bool) (xs : List ℕ) (i : ℕ) → T (every f i xs) → (k : ℕ) → k < length xs → T (f (i + k) (get_or xs k 0))
from f [] i t k h = absurd (not-suc-le-zero h)
from f (x ∷ xs) i t zero h = subst (λ (m : ℕ). T (f m x)) (sym (add-zero i)) (and_yes (f i x) (every f (suc i) xs) t).0
from f (x ∷ xs) i t (suc k) h =
    subst (λ (m : ℕ). T (f m (get_or xs k 0))) (suc-add i k ∙ sym (add-suc i k))
    (from f xs (suc i) (and_yes (f i x) (every f (suc i) xs) t).1 k (le_of_suc-le-suc h))

pub at : (f : ℕ → ℕ → Bool) (xs : List ℕ) → T (every f 0 xs) → (k : ℕ) → k < length xs → T (f k (get_or xs k 0))
at f xs t k h = subst (λ (m : ℕ). T (f m (get_or xs k 0))) (zero-add k) (from f xs 0 t k h)

-- the rule passes at the value of each key
abbrev pub each : (ℕ → Bool) → List ℕ → List ℕ → Bool
each f [] values = true
each f (k ∷ keys) [] = false
each f (k ∷ keys) (v ∷ values) = f v && each f keys values

module _ (f test : ℕ → Bool) where
  chosen : (here others : Bool) (v rest : ℕ) → T (f v) → (T others → T (f rest)) → T (here || others) → T (f (cond here v rest))
  chosen true others v rest p q t = p
  chosen false others v rest p q t = q t

  -- so it passes at what is found, where something is
  pub of_found : (keys values : List ℕ) → T (each f keys values) → T (any test keys) → T (f (find test keys values))
  of_found [] values t h = absurd h
  of_found (k ∷ keys) [] t h = absurd t
  of_found (k ∷ keys) (v ∷ values) t h =
      let both = and_yes (f v) (each f keys values) t in
      chosen (test k) (any test keys) v (find test keys values) both.0 (of_found keys values both.1) h

  either : (here : Bool) (v rest : ℕ) → T (f v) → T (f rest) → T (f (cond here v rest))
  either true v rest p q = p
  either false v rest p q = q

  -- and where it passes at 0, in any case
  pub of_any : (keys values : List ℕ) → T (each f keys values) → T (f 0) → T (f (find test keys values))
  of_any [] values t z = z
  of_any (k ∷ keys) [] t z = z
  of_any (k ∷ keys) (v ∷ values) t z =
      let both = and_yes (f v) (each f keys values) t in
      either (test k) v (find test keys values) both.0 (of_any keys values both.1 z)
