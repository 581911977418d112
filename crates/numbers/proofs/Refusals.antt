-- No refusal has the number 0, whatever is read: by cases on the tests of a number's groups, and number by number for a run.
-- Assumes nothing.
use Prim.Native.Nat.{ℕ, zero, suc, ◌-◌, ◌<◌}
use mathlib.Core.List.{List, [], ◌∷◌}
use mathlib.Core.Bool.{Bool, true, false, cond, ◌&&◌}
use native.Mathlib.Omega.{arith}
use lib.Dec.{leb, ltb, eqb}
use Rattle.numbers.specs.Parse.{Parse, got, refused, and_then}
use Rattle.numbers.specs.Number.{above, read_groups, read_number}
use Rattle.numbers.specs.Run.{read_numbers}

abbrev pub Numbered : {A : Type 0} → Parse A → Type 0
Numbered (got a left) = Unit {0}
Numbered (refused r) = 0 < r

pub numbered_cond : {A : Type 0} (t : Bool) (one other : Parse A) → Numbered one → Numbered other → Numbered (cond t one other)
numbered_cond true one other first second = first
numbered_cond false one other first second = second

pub numbered_then : {A B : Type 0} (parse : Parse A) (next : A → List ℕ → Parse B) → Numbered parse
    → ((a : A) (rest : List ℕ) → Numbered (next a rest)) → Numbered (and_then parse next)
numbered_then (got a rest) next first second = second a rest
numbered_then (refused r) next first second = first

numbered_above : (scale low : ℕ) (parse : Parse ℕ) → Numbered parse → Numbered (above scale low parse)
numbered_above scale low (got x rest) first = tt
numbered_above scale low (refused r) first = first

pub numbered_number : (before : ℕ) (bytes : List ℕ) → Numbered (read_groups before bytes)
unfolding read_groups
numbered_number before [] = omega arith
numbered_number before (byte ∷ bytes) =
    let two : Numbered {A = ℕ} (refused 2) = omega arith in
    numbered_cond (leb 4 before && ltb 15 byte) _ _ two
    (numbered_cond (ltb byte 128) _ _ (numbered_cond (ltb 0 before && eqb byte 0) _ _ two tt)
    (numbered_above 128 (byte - 128) (read_groups (suc before) bytes) (numbered_number (suc before) bytes)))

pub numbered_numbers : (count : ℕ) (bytes : List ℕ) → Numbered (read_numbers count bytes)
unfolding read_numbers
numbered_numbers zero bytes = tt
numbered_numbers (suc count) bytes =
    numbered_then (read_number bytes) _ (numbered_number 0 bytes)
    (λ x rest. numbered_then (read_numbers count rest) _ (numbered_numbers count rest) (λ xs end. tt))
