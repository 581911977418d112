-- The loop that reads a number: what is known at its head, what each byte that ends it gives, and that one more group carries the
-- head on. A number is the value so far plus the scale times what the groups from here on give. Assumes nothing.
use Prim.Native.Nat.{ℕ, suc, ◌+◌, ◌-◌, ◌*◌, ◌^◌, ◌≤◌, ◌<◌}
use mathlib.Core.Path.{◌≡◌, refl, sym, ◌∙◌}
use mathlib.Core.List.{List, ◌∷◌}
use mathlib.Core.Logic.{◌⊎◌, ⊎_elim}
use native.Mathlib.Omega.{arith}
use native.Mathlib.Numerals.{add-one}
use native.Mathlib.Nat.{add_assoc, mul-add, mul_assoc, pow-suc, mul-le-mul_left, pow-le-pow_right}
use borrow.Author.Tests.{lt-ltb, le-ltb, le-leb, eq-eqb}
use lib.ListN.{length, get_or, drop, length-drop, drop_of_length-le}
use lib.Seq.{drop-cons, drop-drop}
use Rattle.std.specs.Prelude.{Ok, Err}
use Rattle.std.proofs.lemmas.List.{get_or-drop}
use Rattle.arithmetic.proofs.Tests.{split}
use Rattle.numbers.specs.Parse.{Parse, got, refused}
use Rattle.numbers.specs.Number.{above, read_groups, read_number}
use Rattle.numbers.specs.Answers.{number_of, NumberRead}
use Rattle.numbers.specs.declared.number.NumberRefusal.{NumberRefusal}
use Rattle.numbers.specs.declared.number.NumberRefusal.TheVariants.{BytesEnd}
use Rattle.numbers.proofs.Codec.{not_over, not_longer}

-- a group on top of those read
above-above : (scale value low : ℕ) (parse : Parse ℕ)
    → above scale value (above 128 low parse) ≡ above (scale * 128) (value + scale * low) parse
above-above scale value low (got x left) = simp (mul-add, mul_assoc, add_assoc)
above-above scale value low (refused r) = refl

-- What is known where the loop begins a turn, in the bytes from the number on: `before` groups are read, with more to follow.
pub record Head (left : List ℕ) (before scale value : ℕ) : Type 0 where
  pub few : before ≤ 4
  pub scales : scale ≡ 128 ^ before
  pub small : value < scale
  pub reads : read_number left ≡ above scale value (read_groups before (drop before left))

-- With a group below 128, and below 16 if it is the fifth, a number stays in 32 bits.
pub in_32_bits : (before scale value group : ℕ) → before ≤ 4 → scale ≡ 128 ^ before → value < scale → group < 128
    → (4 ≤ before → group ≤ 15) → value + scale * group < 2 ^ 32
in_32_bits before scale value group few scales small seven fifth =
    ⊎_elim
    (λ early.
    let h : 128 ^ before ≤ 128 ^ 3 = pow-le-pow_right {n = 128} (omega arith) {i = before} {j = 3} (omega arith) in
    let g : scale * group ≤ scale * 127 = mul-le-mul_left scale (omega arith) in
    omega arith)
    (λ last.
    let fourth : before ≡ 4 = omega arith in
    let h : 128 ^ before ≡ 128 ^ 4 = rw fourth in
    let g : scale * group ≤ scale * 15 = mul-le-mul_left scale (fifth last) in
    omega arith)
    (split before 4)

-- the bytes end
pub reads_cut : {left : List ℕ} {before scale value : ℕ} → Head left before scale value → length left ≤ before → refused 1 ≡ read_number left
unfolding read_groups
reads_cut {left} head outside = sym (head.reads ∙ rw (drop_of_length-le left outside))

-- A turn: the byte after those groups is read.
pub record Turn (left : List ℕ) (before scale value byte : ℕ) : Type 0 where
  pub head : Head left before scale value
  pub inside : before < length left
  pub reads : byte ≡ get_or left before 0
  pub whole : byte < 256

module _ {left : List ℕ} {before scale value byte : ℕ} (turn : Turn left before scale value byte) where
  starts : drop before left ≡ byte ∷ drop (before + 1) left
  starts =
      let inside : before < length left = turn.inside in
      rw (turn.reads, add-one, drop-cons left before 0)

  -- a fifth byte above 15
  pub reads_over : 4 ≤ before → 15 < byte → refused 2 ≡ read_number left
  unfolding read_groups
  reads_over fifth over = sym (turn.head.reads ∙ rw starts (simp (le-leb 4 before fifth, lt-ltb 15 byte over)))

  module _ (fine : 4 ≤ before → byte ≤ 15) where
    -- a last byte fits with the value so far
    pub last_fits : byte < 128 → value + scale * byte < 2 ^ 32
    last_fits last = in_32_bits before scale value byte turn.head.few turn.head.scales turn.head.small last fine

    -- a last byte of 0 above others
    pub reads_longer : 0 < before → byte ≡ 0 → refused 2 ≡ read_number left
    unfolding read_groups
    reads_longer above none =
        let last : byte < 128 = omega arith in
        sym (turn.head.reads ∙ rw starts (simp (not_over before byte fine, lt-ltb byte 128 last, lt-ltb 0 before above, eq-eqb byte 0 none)))

    -- the last byte of a shortest form
    pub reads_value : byte < 128 → (0 < before → 0 < byte) → got (value + scale * byte) (drop (before + 1) left) ≡ read_number left
    unfolding read_groups
    reads_value last shortest =
        sym (turn.head.reads ∙ rw starts (simp (not_over before byte fine, lt-ltb byte 128 last, not_longer before byte shortest)))

    module _ (follows : 128 ≤ byte) where
      -- where more follow, this is not the fifth
      early : before < 4
      early = ⊎_elim (λ h. h) (λ last. let h : byte ≤ 15 = fine last in absurd (omega arith)) (split before 4)

      pub more_fits : value + scale * (byte - 128) < 2 ^ 32
      more_fits =
          in_32_bits before scale value (byte - 128) turn.head.few turn.head.scales turn.head.small
          (omega (arith, turn.whole)) (λ h. absurd (omega (arith, early)))

      pub scale_fits : scale * 128 < 2 ^ 32
      scale_fits =
          let h : 128 ^ before ≤ 128 ^ 3 = pow-le-pow_right {n = 128} (omega arith) {i = before} {j = 3} (omega (arith, early)) in
          omega (arith, turn.head.scales)

      -- a group with more to follow carries the head on
      pub head_more : Head left (before + 1) (scale * 128) (value + scale * (byte - 128))
      unfolding read_groups
      head_more =
          let group : scale * (byte - 128) ≤ scale * 127 = mul-le-mul_left scale (omega (arith, turn.whole)) in
          record {
            few = omega (arith, early);
            scales = rw (add-one, pow-suc, ← turn.head.scales);
            small = omega (arith, turn.head.small);
            reads =
                turn.head.reads ∙ rw starts (simp (not_over before byte fine, le-ltb byte 128 follows))
                ∙ above-above scale value (byte - 128) (read_groups (suc before) (drop (before + 1) left)) ∙ rw add-one;
          }

-- ---- what the tests say where they fail

pub low_fifth : {before byte : ℕ} → ((4 ≤ before) × (byte ≤ 15)) ⊎ (before < 4) → 4 ≤ before → byte ≤ 15
low_fifth either fifth = ⊎_elim (λ low. low.1) (λ early. absurd (omega arith)) either

pub not_none : {before byte : ℕ} → ((0 < before) × (byte ≡ 0 → ⊥)) ⊎ (before ≤ 0) → 0 < before → 0 < byte
not_none {before} {byte} either later =
    ⊎_elim (λ (some : (0 < before) × (byte ≡ 0 → ⊥)). let h : byte ≡ 0 → ⊥ = some.1 in omega arith) (λ first. absurd (omega arith)) either

-- ---- what was read from a place on, by what the bytes from there on give

-- a turn, by the place of its byte
pub turn_at : (bytes : List ℕ) {from at scale value byte : ℕ} → Head (drop from bytes) (at - from) scale value → from ≤ at
    → at < length bytes → byte ≡ get_or bytes at 0 → byte < 256 → Turn (drop from bytes) (at - from) scale value byte
turn_at bytes {from} {at} head order inside reads whole =
    let place : from + (at - from) ≡ at = omega arith in
    record {
      head = head;
      inside = omega (arith, length-drop from bytes);
      reads = rw (get_or-drop, place) reads;
      whole = whole;
    }

-- and the next
pub head_next : {left : List ℕ} {from at scale value : ℕ} → from ≤ at → Head left (at - from + 1) scale value → Head left (at + 1 - from) scale value
head_next {left} {from} {at} order head =
    let one_more : at + 1 - from ≡ at - from + 1 = omega arith in
    rw one_more head

module _ {bytes : List ℕ} {from : ℕ} where
  pub refused_there : (r : NumberRefusal) → refused (number_of r) ≡ read_number (drop from bytes) → NumberRead bytes from (Err r)
  refused_there r reads = record { means = reads; within = omega arith }

  pub cut_there : (at : ℕ) {scale value : ℕ} → Head (drop from bytes) (at - from) scale value → length bytes ≤ at → NumberRead bytes from (Err BytesEnd)
  cut_there at head outside = refused_there BytesEnd (reads_cut head (omega (arith, length-drop from bytes)))

  pub value_there : (x at : ℕ) → from ≤ at → at < length bytes → got x (drop (at - from + 1) (drop from bytes)) ≡ read_number (drop from bytes)
      → NumberRead bytes from (Ok (record { value = x; next = at + 1 }))
  value_there x at order inside reads =
      let place : from + (at - from + 1) ≡ at + 1 = omega arith in
      record { means = rw (drop-drop (at - from + 1) from bytes, place) at reads; within = omega arith }
