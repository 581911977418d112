-- What a counter answers for: it has counted each byte that it took. And the laws of bytes counted one after another: two runs make one,
-- and where all of them can be counted, so can each part. Assumes nothing.
use Rattle.std.specs.Prelude.{ℕ, ◌+◌, ◌≡◌, ◌<◌, ◌^◌, List, [], ◌++◌, length}
use Rattle.std.proofs.Math.Nat.{add_assoc, add-zero, le-add_right, lt_of_le_of_lt}
use Rattle.std.proofs.Math.ListN.{length-append}
use Rattle.std.proofs.Math.Path.{sym, ap, subst, ◌∙◌}
use Rattle.items.specs.declared.Counter.{Counter}

abbrev pub Counts : (before : Counter) (bytes : List ℕ) (after : Counter) → Type 0
Counts before bytes after = after.count ≡ before.count + length bytes

-- these bytes leave the count in range
abbrev pub CanCount : Counter → (bytes : List ℕ) → Type 0
CanCount counter bytes = counter.count + length bytes < 2 ^ 64

-- one run after another, by their sizes
sizes : (before : ℕ) (xs ys : List ℕ) → before + length xs + length ys ≡ before + length (xs ++ ys)
sizes before xs ys = add_assoc before (length xs) (length ys) ∙ ap (λ (n : ℕ). before + n) (sym (length-append xs ys))

pub counts_none : (counter : Counter) → Counts counter [] counter
counts_none counter = sym (add-zero counter.count)

pub counts_both : (before between after : Counter) (xs ys : List ℕ) → Counts before xs between → Counts between ys after
    → Counts before (xs ++ ys) after
counts_both before between after xs ys first second =
    second ∙ ap (λ (n : ℕ). n + length ys) first ∙ sizes before.count xs ys

pub can_count_first : (counter : Counter) (xs ys : List ℕ) → CanCount counter (xs ++ ys) → CanCount counter xs
can_count_first counter xs ys room =
    lt_of_le_of_lt (le-add_right (counter.count + length xs) (length ys))
    (subst (λ (n : ℕ). n < 2 ^ 64) (sym (sizes counter.count xs ys)) room)

pub can_count_after : (before after : Counter) (xs ys : List ℕ) → Counts before xs after
    → CanCount before (xs ++ ys)
    → CanCount after ys
can_count_after before after xs ys counts room =
    subst (λ (n : ℕ). n < 2 ^ 64) (sym (sizes before.count xs ys) ∙ ap (λ (n : ℕ). n + length ys) (sym counts)) room
