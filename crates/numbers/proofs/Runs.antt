-- Reading a run of numbers: the equations of `read_numbers` and of the numbers that can be read, and the loop that fills a list with them.
-- At its head the run is what the list holds so far with what the rest of the run gives. Assumes nothing.
use Prim.Native.Nat.{ℕ, suc, ◌+◌, ◌-◌, ◌≤◌, ◌<◌}
use mathlib.Core.Path.{◌≡◌, refl, sym, ap, ◌∙◌}
use mathlib.Core.List.{List, [], ◌∷◌, ◌++◌, append_assoc, append-nil}
use native.Mathlib.Omega.{arith}
use native.Mathlib.Numerals.{add-one}
use lib.ListN.{length, take, drop, set, length-set, take-append-drop}
use lib.Seq.{take_all, take-suc-set, length-take-le, drop-set-lt, drop-drop}
use Rattle.std.specs.Prelude.{Ok, Err}
use Rattle.buffers.specs.Put.{at_front}
use Rattle.numbers.specs.Parse.{Parse, got, refused, and_then}
use Rattle.numbers.specs.Number.{read_number}
use Rattle.numbers.specs.Run.{read_numbers}
use Rattle.numbers.specs.Answers.{number_of, NumberRead, readable, RunRead}
use Rattle.numbers.specs.declared.number.Number.{Number}
use Rattle.numbers.specs.declared.number.NumberRefusal.{NumberRefusal}

-- these numbers, and then those that reading gives
abbrev pub prepend : List ℕ → Parse (List ℕ) → Parse (List ℕ)
prepend xs (got ys left) = got (xs ++ ys) left
prepend xs (refused r) = refused r

prepend_none : (parse : Parse (List ℕ)) → parse ≡ prepend [] parse
prepend_none (got xs left) = refl
prepend_none (refused r) = refl

prepend_prepend : (xs ys : List ℕ) (parse : Parse (List ℕ)) → prepend xs (prepend ys parse) ≡ prepend (xs ++ ys) parse
prepend_prepend xs ys (got zs left) = simp append_assoc
prepend_prepend xs ys (refused r) = refl

then_prepend : (x : ℕ) (parse : Parse (List ℕ)) → and_then parse (λ xs rest. got (x ∷ xs) rest) ≡ prepend (x ∷ []) parse
then_prepend x (got xs left) = refl
then_prepend x (refused r) = refl

pub numbers_more : (count : ℕ) (bytes : List ℕ) (x : ℕ) (left : List ℕ) → read_number bytes ≡ got x left
    → read_numbers (suc count) bytes ≡ prepend (x ∷ []) (read_numbers count left)
unfolding read_numbers
numbers_more count bytes x left e = rw e (then_prepend x (read_numbers count left))

pub numbers_refused : (count : ℕ) (bytes : List ℕ) (r : ℕ) → read_number bytes ≡ refused r → read_numbers (suc count) bytes ≡ refused r
unfolding read_numbers
numbers_refused count bytes r e = rw e

-- the numbers that can be read, by their first
readable_more : (count : ℕ) (bytes : List ℕ) (x : ℕ) (left : List ℕ) → read_number bytes ≡ got x left
    → readable (suc count) bytes ≡ x ∷ readable count left
unfolding readable
readable_more count bytes x left e = rw e

readable_none : (count : ℕ) (bytes : List ℕ) (r : ℕ) → read_number bytes ≡ refused r → readable (suc count) bytes ≡ []
unfolding readable
readable_none count bytes r e = rw e

-- What is known where the loop begins a turn: `i` of the list's numbers are read, and the next one begins at `at`.
pub record RunHead (bytes : List ℕ) (from : ℕ) (entry values : List ℕ) (at i : ℕ) : Type 0 where
  pub holds : length values ≡ length entry
  pub few : i ≤ length entry
  pub inside : from ≤ length bytes → at ≤ length bytes
  pub reads : read_numbers (length entry) (drop from bytes) ≡ prepend (take i values) (read_numbers (length entry - i) (drop at bytes))
  pub readables : readable (length entry) (drop from bytes) ≡ take i values ++ readable (length entry - i) (drop at bytes)
  pub past : drop i values ≡ drop i entry

pub run_none : (bytes : List ℕ) (from : ℕ) (values : List ℕ) → RunHead bytes from values values from 0
run_none bytes from values =
    let all : length values - 0 ≡ length values = omega arith in
    record {
      holds = refl;
      few = omega arith;
      inside = λ inside. inside;
      reads = rw all (prepend_none (read_numbers (length values) (drop from bytes)));
      readables = rw all;
      past = refl;
    }

module _ {bytes : List ℕ} {from : ℕ} {entry values : List ℕ} {at i : ℕ} (head : RunHead bytes from entry values at i) where
  -- where none of those left can be read, the numbers read are all that can
  stands : readable (length entry - i) (drop at bytes) ≡ [] → values ≡ at_front (readable (length entry) (drop from bytes)) entry
  stands none =
      let few : i ≤ length values = omega (arith, head.few, head.holds) in
      rw (head.readables, none, append-nil, length-take-le i values few, ← head.past) (sym (take-append-drop i values))

  pub run_done : length entry ≤ i → RunRead bytes from entry values (Ok at)
  unfolding read_numbers readable
  run_done done =
      let none : length entry - i ≡ 0 = omega (arith, head.few) in
      record {
        means = sym (head.reads ∙ rw (none, take_all i values (omega (arith, head.holds)), append-nil));
        within = head.inside;
        front = stands (rw none);
      }

  module _ (more : i < length entry) where
    one_less : length entry - i ≡ suc (length entry - (i + 1))
    one_less = omega arith

    pub run_refused : (r : NumberRefusal) → NumberRead bytes at (Err r) → RunRead bytes from entry values (Err r)
    run_refused r read =
        let stops = numbers_refused (length entry - (i + 1)) (drop at bytes) (number_of r) (sym read.means) in
        let none = readable_none (length entry - (i + 1)) (drop at bytes) (number_of r) (sym read.means) in
        record {
          means = sym (head.reads ∙ rw (one_less, stops));
          within = λ inside. omega arith;
          front = stands (rw one_less none);
        }

    pub run_more : (number : Number) → NumberRead bytes at (Ok number)
        → RunHead bytes from entry (set values i number.value) number.next (i + 1)
    run_more number read =
        let x = number.value in
        let next = number.next in
        let place : i < length values = omega (arith, head.holds) in
        let goes_on = numbers_more (length entry - (i + 1)) (drop at bytes) x (drop next bytes) (sym read.means) in
        let one_more = readable_more (length entry - (i + 1)) (drop at bytes) x (drop next bytes) (sym read.means) in
        record {
          holds = length-set values i x ∙ head.holds;
          few = omega arith;
          inside = λ inside. read.within;
          reads = head.reads ∙ rw (one_less, goes_on, prepend_prepend, add-one, take-suc-set);
          readables = head.readables ∙ rw (one_less, one_more, add-one, take-suc-set) (sym (append_assoc (take i values) (x ∷ []) _));
          past =
              drop-set-lt (i + 1) values i x (omega arith)
              ∙ sym (drop-drop 1 i values) ∙ ap (drop 1) head.past ∙ drop-drop 1 i entry;
        }
