-- One thing read after another: where both were read, what each gave. By cases on what the first gave. Assumes nothing.
use Prim.Native.Nat.{ℕ}
use mathlib.Core.Path.{◌≡◌, refl}
use mathlib.Core.List.{List}
use native.Mathlib.Omega.{arith}
use Rattle.numbers.specs.Parse.{Parse, got, refused, and_then}

pub then_got : {A B : Type 0} (parse : Parse A) (next : A → List ℕ → Parse B) (b : B) (left : List ℕ) → and_then parse next ≡ got b left
    → (a : A) × (rest : List ℕ) × (parse ≡ got a rest) × (next a rest ≡ got b left)
then_got (got a rest) next b left e = (a, rest, refl, e)
then_got (refused r) next b left e = let z : ◌≡◌ {A = ℕ} 0 1 = cc in absurd (omega arith)
