-- The codec of a run: stored forms read back to the numbers and leave what came after, and numbers that were read have the bytes that
-- were read for their stored forms. Number by number from the codec. Assumes nothing.
use Prim.Native.Nat.{ℕ, zero, suc, ◌+◌, ◌^◌, ◌<◌}
use mathlib.Core.Path.{◌≡◌, refl, ap, subst₂}
use mathlib.Core.List.{List, [], ◌∷◌, ◌++◌, append_assoc}
use native.Mathlib.Omega.{arith}
use lib.ListN.{length, get_or}
use lib.Seq.{get_or-append-add}
use Rattle.numbers.specs.Parse.{got, and_then}
use Rattle.numbers.specs.Number.{stored, read_number, Bytes}
use Rattle.numbers.specs.Run.{read_numbers, stored_all}
use Rattle.numbers.proofs.Parsing.{then_got}
use Rattle.numbers.proofs.Codec.{read_stored, stored_read, number_small}

pub read_stored_all : (xs : List ℕ) → ((k : ℕ) → get_or xs k 0 < 2 ^ 32) → (left : List ℕ)
    → read_numbers (length xs) (stored_all xs ++ left) ≡ got xs left
unfolding stored_all read_numbers
read_stored_all [] small left = refl
read_stored_all (x ∷ xs) small left =
    rw (append_assoc, read_stored x (small 0), read_stored_all xs (λ k. small (suc k)) left)

pub bytes_left : (taken left bytes : List ℕ) → taken ++ left ≡ bytes → Bytes bytes → Bytes left
bytes_left taken left bytes e all k = rw (← get_or-append-add taken left k 0, e) (all (length taken + k))

-- What was read is the stored forms of the numbers, as many as were asked for.
pub record TakenAll (bytes : List ℕ) (count : ℕ) (xs left : List ℕ) : Type 0 where
  pub form : stored_all xs ++ left ≡ bytes
  pub long : length xs ≡ count
  pub small : (k : ℕ) → get_or xs k 0 < 2 ^ 32

taken_more : (x : ℕ) (bytes rest xs left : List ℕ) (count : ℕ) → stored x ++ rest ≡ bytes → x < 2 ^ 32 → TakenAll rest count xs left
    → TakenAll bytes (suc count) (x ∷ xs) left
unfolding stored_all
taken_more x bytes rest xs left count form small taken =
    record {
      form = rw (append_assoc, taken.form) form;
      long = ap suc taken.long;
      small = elim [ zero ↦ small | suc k ↦ taken.small k ];
    }

pub taken_all : (count : ℕ) (bytes xs left : List ℕ) → Bytes bytes → read_numbers count bytes ≡ got xs left → TakenAll bytes count xs left
unfolding read_numbers stored_all
taken_all zero bytes xs left all e =
    let none : [] ≡ xs = cc in
    let whole : bytes ≡ left = cc in
    rw (← none, ← whole) (record { form = refl; long = refl; small = λ k. omega arith })
taken_all (suc count) bytes xs left all e =
    let (x, after-x, first, e₁) =
    then_got (read_number bytes) (λ x rest. and_then (read_numbers count rest) (λ ys end. got (x ∷ ys) end)) xs left e in
    let (ys, end, others, e₂) = then_got (read_numbers count after-x) (λ ys end. got (x ∷ ys) end) xs left e₁ in
    let form = stored_read bytes x after-x all first in
    let is : x ∷ ys ≡ xs = cc in
    let ends : end ≡ left = cc in
    subst₂ (λ (zs rest : List ℕ). TakenAll bytes (suc count) zs rest) is ends
    (taken_more x bytes after-x ys end count form (number_small bytes x after-x all first)
    (taken_all count after-x ys end (bytes_left (stored x) after-x bytes form all) others))
