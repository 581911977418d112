-- The sizes that a table counts, place by place. By recursion to the place. Assumes nothing.
use mathlib.Core.Path.{◌≡◌, refl, ap, ◌∙◌}
use mathlib.Core.List.{List, [], ◌∷◌, ◌++◌}
use Prim.Native.Nat.{ℕ, zero, suc, ◌+◌, ◌<◌, min}
use native.Mathlib.Nat.{le_of_suc-le-suc}
use native.Mathlib.Numerals.{add-one}
use native.Mathlib.Omega.{arith}
use lib.ListN.{length, get_or, drop, take}
use denote.Ref.{Bor}
use Rattle.std.specs.Prelude.{Option, Some, None}
use Rattle.std.specs.declared.iter.Zip.{Zip}
use Rattle.std.specs.declared.slice.Iter.{Iter}
use Rattle.std.specs.Iterator.{Yields}
use Rattle.std.specs.Iterator.Adapters.{zip_first, zip_second}
use Rattle.std.specs.Slice.Iter.{iter_rest}
use Rattle.std.proofs.iter.Yields.{fronts}
use Rattle.std.proofs.lemmas.Iterator.{zips}
use Rattle.std.proofs.lemmas.List.{length_push}
use Rattle.std.proofs.lemmas.Slice.Zip.{zip_turn, zip_end}
use Rattle.bolttable.specs.Loading.{sizes_in}
use Rattle.bolttable.specs.Steps.{all_sizes}

-- two lists have these at a place, as a loop over both has them in one turn
abbrev pub At : (diameters areas : List ℕ) (place diameter area : ℕ) → Type 0
At diameters areas place diameter area =
    (place < length diameters) × (place < length areas) × ((none : ℕ) → diameter ≡ get_or diameters place none)
    × ((none : ℕ) → area ≡ get_or areas place none)

-- then these are the first of the sizes from the place on
pub sizes_from : (diameters areas : List ℕ) (place : ℕ) {diameter area : ℕ} → At diameters areas place diameter area
    → drop place (all_sizes diameters areas)
    ≡ record { diameter = diameter; area = area } ∷ drop (place + 1) (all_sizes diameters areas)
unfolding sizes_in
sizes_from [] areas place at = absurd (omega (arith, at.0))
sizes_from (next ∷ diameters) [] place at = absurd (omega (arith, at.1))
sizes_from (next ∷ diameters) (across ∷ areas) zero at = rw (at.2 0, at.3 0)
sizes_from (next ∷ diameters) (across ∷ areas) (suc place) at =
    sizes_from diameters areas place (le_of_suc-le-suc at.0, le_of_suc-le-suc at.1, at.2, at.3)
    ∙ (rw (add-one place, add-one (suc place)))

-- past the last there are none
pub sizes_end : (diameters areas : List ℕ) (place : ℕ) → place ≡ min (length diameters) (length areas) → drop place (all_sizes diameters areas) ≡ []
unfolding sizes_in
sizes_end [] areas zero past = refl
sizes_end [] areas (suc place) past = refl
sizes_end (diameter ∷ diameters) [] zero past = refl
sizes_end (diameter ∷ diameters) [] (suc place) past = refl
sizes_end (diameter ∷ diameters) (area ∷ areas) zero past = absurd (omega arith)
sizes_end (diameter ∷ diameters) (area ∷ areas) (suc place) past =
    sizes_end diameters areas place (omega arith)

-- ---- a loop over both lists

module _ (diameters areas : List ℕ) (turns : List (Bor ℕ × Bor ℕ)) (s t u : Zip (Iter ℕ) (Iter ℕ)) {r : Option (Bor ℕ × Bor ℕ)}
    (first : iter_rest (zip_first s) ≡ diameters) (second : iter_rest (zip_second s) ≡ areas) (turned : Yields (zips fronts fronts) s turns t)
    (step : zips fronts fronts t r u) where
  -- the turn's size stands before those that are left after it
  pub next_size : {p : Bor ℕ × Bor ℕ} → r ≡ Some p
      → drop (length turns) (all_sizes diameters areas)
      ≡ record { diameter = p.0.now; area = p.1.now } ∷ drop (length (turns ++ (p ∷ []))) (all_sizes diameters areas)
  next_size {p} is = rw (length_push turns p) (sizes_from diameters areas _ (zip_turn diameters areas turns s t u r first second turned p is step))

  -- after the last turn none is left
  pub no_size : r ≡ None → drop (length turns) (all_sizes diameters areas) ≡ []
  no_size is = sizes_end diameters areas _ (zip_end diameters areas turns s t u r first second turned is step)

-- the first so many places, lent
pub first_sizes : (count : ℕ) (diameters areas : List ℕ)
    → all_sizes (take count diameters) (take count areas) ≡ sizes_in count diameters areas
unfolding sizes_in
first_sizes zero diameters areas = refl
first_sizes (suc count) [] areas = refl
first_sizes (suc count) (diameter ∷ diameters) [] = refl
first_sizes (suc count) (diameter ∷ diameters) (area ∷ areas) =
    ap (λ sizes. record { diameter = diameter; area = area } ∷ sizes) (first_sizes count diameters areas)
