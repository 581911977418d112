-- Bytes put one after another into a lent buffer make one put: `put_both` joins two. It rests on the laws of `sets`, by induction over the
-- bytes; where all the bytes have room, so has each part. Assumes nothing.
use Prim.Native.Nat.{ℕ, suc, ◌+◌, ◌≤◌}
use mathlib.Core.Path.{◌≡◌, refl, sym, ap, ◌∙◌}
use mathlib.Core.List.{List, [], ◌∷◌, ◌++◌}
use native.Mathlib.Omega.{arith}
use native.Mathlib.Nat.{add-zero, zero-add}
use lib.ListN.{length, set, length-append}
use lib.Seq.{sets, sets-eq, length-sets}
use Rattle.buffers.specs.Put.{at_front, Put}

pub sets-append : (l : List ℕ) (i : ℕ) (xs ys : List ℕ) → sets l i (xs ++ ys) ≡ sets (sets l i xs) (i + length xs) ys
sets-append l i [] ys = rw add-zero
sets-append l i (x ∷ xs) ys =
    let place : i + suc (length xs) ≡ suc i + length xs = omega arith in
    rw place (sets-append (set l i x) (suc i) xs ys)

-- bytes stored from the first place on stand at the front
pub sets_front : (bytes buffer : List ℕ) → length bytes ≤ length buffer → sets buffer 0 bytes ≡ at_front bytes buffer
sets_front bytes buffer fits = sets-eq bytes buffer 0 (omega arith) ∙ rw zero-add

pub put_both : {buffer between exit xs ys : List ℕ} {from at next : ℕ} → Put buffer from xs between at → Put between at ys exit next
    → Put buffer from (xs ++ ys) exit next
put_both {buffer} {between} {exit} {xs} {ys} {from} first second =
    record {
      place = second.place ∙ rw (first.place, length-append) (omega arith);
      stores = second.stores ∙ rw (first.stores, first.place) (sym (sets-append buffer from xs ys));
    }

pub put_none : (buffer : List ℕ) (from : ℕ) → Put buffer from [] buffer from
put_none buffer from = record { place = sym (add-zero from); stores = refl }

pub put_length : {buffer bytes exit : List ℕ} {from next : ℕ} → Put buffer from bytes exit next → length exit ≡ length buffer
put_length {buffer} {bytes} {exit} {from} put = ap length put.stores ∙ length-sets buffer from bytes

-- where all of it fits, so does the first part, and what is left after it
pub room_first : (xs ys : List ℕ) (from end : ℕ) → from + length (xs ++ ys) ≤ end → from + length xs ≤ end
room_first xs ys from end room = omega (arith, room, length-append xs ys)

pub room_after : {buffer exit xs : List ℕ} {from next : ℕ} (ys : List ℕ) → Put buffer from xs exit next
    → from + length (xs ++ ys) ≤ length buffer
    → next + length ys ≤ length exit
room_after {xs = xs} ys put room = omega (arith, room, length-append xs ys, put.place, put_length put)
