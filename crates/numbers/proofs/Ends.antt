-- Reading leaves an end of the bytes, whatever they are, bytes or other numbers: a number takes one off the front after the other and at
-- least one, and numbers one after another leave an end of an end. By induction over the bytes, and over the count. Assumes nothing.
use Prim.Native.Nat.{ℕ, zero, suc, ◌+◌, ◌-◌, ◌≤◌, ◌<◌}
use mathlib.Core.Path.{◌≡◌, ap, ◌∙◌}
use mathlib.Core.List.{List, [], ◌∷◌}
use mathlib.Core.Bool.{Bool, true, false, cond, ◌&&◌}
use native.Mathlib.Omega.{arith}
use lib.Dec.{leb, ltb, eqb}
use lib.ListN.{length, drop}
use lib.Seq.{drop-drop}
use Rattle.numbers.specs.Parse.{Parse, got, refused, and_then}
use Rattle.numbers.specs.Number.{above, read_groups, read_number}
use Rattle.numbers.specs.Run.{read_numbers}

pub record EndOf (bytes left : List ℕ) : Type 0 where
  pub short : length left ≤ length bytes
  pub is : left ≡ drop (length bytes - length left) bytes

pub end_whole : (bytes : List ℕ) → EndOf bytes bytes
end_whole bytes =
    let none : length bytes - length bytes ≡ 0 = omega arith in
    record { short = omega arith; is = rw none }

pub end_later : (byte : ℕ) {bytes left : List ℕ} → EndOf bytes left → EndOf (byte ∷ bytes) left
end_later byte {bytes} {left} e =
    let one_more : suc (length bytes) - length left ≡ suc (length bytes - length left) = omega (arith, e.short) in
    record { short = omega (arith, e.short); is = rw one_more e.is }

pub end_end : {bytes rest left : List ℕ} → EndOf bytes rest → EndOf rest left → EndOf bytes left
end_end {bytes} {rest} {left} first second =
    let both : length bytes - length rest + (length rest - length left) ≡ length bytes - length left =
    omega (arith, first.short, second.short) in
    record {
      short = omega (arith, first.short, second.short);
      is =
          second.is ∙ ap (drop (length rest - length left)) first.is
          ∙ drop-drop (length rest - length left) (length bytes - length rest) bytes ∙ ap (λ (n : ℕ). drop n bytes) both;
    }

-- what was read left an end of the bytes; a refusal leaves nothing
abbrev pub LeavesEnd : {A : Type 0} → List ℕ → Parse A → Type 0
LeavesEnd bytes (got a left) = EndOf bytes left
LeavesEnd bytes (refused r) = Unit {0}

pub end_cond : {A : Type 0} (bytes : List ℕ) (test : Bool) (one other : Parse A) → LeavesEnd bytes one → LeavesEnd bytes other
    → LeavesEnd bytes (cond test one other)
end_cond bytes true one other first second = first
end_cond bytes false one other first second = second

pub end_then : {A B : Type 0} (bytes : List ℕ) (parse : Parse A) (next : A → List ℕ → Parse B) → LeavesEnd bytes parse
    → ((a : A) (rest : List ℕ) → LeavesEnd rest (next a rest)) → LeavesEnd bytes (and_then parse next)
end_then {B = B} bytes (got a rest) next first second = after (next a rest) (second a rest)
  where
    after : (parse : Parse B) → LeavesEnd rest parse → LeavesEnd bytes parse
    after (got b left) e = end_end first e
    after (refused r) e = tt
end_then bytes (refused r) next first second = tt

end_above : (bytes : List ℕ) (scale low : ℕ) (parse : Parse ℕ) → LeavesEnd bytes parse → LeavesEnd bytes (above scale low parse)
end_above bytes scale low (got x left) e = e
end_above bytes scale low (refused r) e = tt

later : (byte : ℕ) (bytes : List ℕ) (parse : Parse ℕ) → LeavesEnd bytes parse → LeavesEnd (byte ∷ bytes) parse
later byte bytes (got x left) e = end_later byte e
later byte bytes (refused r) e = tt

-- ---- a number takes its first byte, and leaves an end of the others

group_end : (before byte : ℕ) (bytes : List ℕ) → LeavesEnd bytes (read_groups (suc before) bytes)
    → LeavesEnd bytes (read_groups before (byte ∷ bytes))
unfolding read_groups
group_end before byte bytes e =
    end_cond bytes (leb 4 before && ltb 15 byte) _ _ tt
    (end_cond bytes (ltb byte 128) _ _ (end_cond bytes (ltb 0 before && eqb byte 0) _ _ tt (end_whole bytes))
    (end_above bytes 128 (byte - 128) (read_groups (suc before) bytes) e))

groups_end : (before byte : ℕ) (bytes : List ℕ) → LeavesEnd bytes (read_groups before (byte ∷ bytes))
unfolding read_groups
groups_end before byte [] = group_end before byte [] tt
groups_end before byte (next ∷ bytes) =
    group_end before byte (next ∷ bytes) (later next bytes (read_groups (suc before) (next ∷ bytes)) (groups_end (suc before) next bytes))

pub number_leaves_end : (bytes : List ℕ) → LeavesEnd bytes (read_number bytes)
unfolding read_groups
number_leaves_end [] = tt
number_leaves_end (byte ∷ bytes) = later byte bytes (read_number (byte ∷ bytes)) (groups_end 0 byte bytes)

pub numbers_leave_end : (count : ℕ) (bytes : List ℕ) → LeavesEnd bytes (read_numbers count bytes)
unfolding read_numbers
numbers_leave_end zero bytes = end_whole bytes
numbers_leave_end (suc count) bytes =
    end_then bytes (read_number bytes) _ (number_leaves_end bytes)
    (λ x rest. end_then rest (read_numbers count rest) _ (numbers_leave_end count rest) (λ xs end. end_whole end))

-- ---- so less is left than there was

pub number_shorter : (bytes : List ℕ) (x : ℕ) (left : List ℕ) → read_number bytes ≡ got x left → length left < length bytes
unfolding read_groups
number_shorter [] x left e = let z : ◌≡◌ {A = ℕ} 0 1 = cc in absurd (omega arith)
number_shorter (byte ∷ bytes) x left e =
    let others : EndOf bytes left = rw e at (groups_end 0 byte bytes) in
    omega (arith, others.short)
