-- The codec of a number: its stored form reads back to it and leaves what came after, and a number that was read has the bytes that
-- were read for its stored form. Both by induction over the groups, with the bound that the groups left can hold. Assumes nothing.
use Prim.Native.Nat.{ℕ, zero, suc, ◌+◌, ◌-◌, ◌*◌, ◌/◌, ◌%◌, ◌^◌, ◌≤◌, ◌<◌}
use mathlib.Core.Path.{◌≡◌, refl, sym, ap, ◌∙◌}
use mathlib.Core.List.{List, [], ◌∷◌, ◌++◌}
use mathlib.Core.Bool.{false, ◌&&◌}
use mathlib.Core.Logic.{◌⊎◌, inl, inr, ⊎_elim}
use native.Mathlib.Omega.{arith}
use native.Mathlib.Nat.{pow-suc, one-le-pow}
use borrow.Author.Tests.{lt-ltb, le-ltb, le-leb, lt-leb, ne_eqb, eq-eqb}
use lib.Dec.{leb, ltb, eqb}
use Rattle.arithmetic.proofs.Tests.{split}
use Rattle.numbers.specs.Parse.{Parse, got, refused}
use Rattle.numbers.specs.Number.{groups, stored, above, read_groups, read_number, Bytes}

-- no fifth byte above 15
pub not_over : (before byte : ℕ) → (4 ≤ before → byte ≤ 15) → (leb 4 before && ltb 15 byte) ≡ false
not_over before byte fine =
    ⊎_elim (λ h. simp (lt-leb 4 before h)) (λ h. simp (le-leb 4 before h, le-ltb 15 byte (fine h))) (split before 4)

-- no highest group of 0 above others
pub not_longer : (before byte : ℕ) → (0 < before → 0 < byte) → (ltb 0 before && eqb byte 0) ≡ false
not_longer before byte pos =
    ⊎_elim (λ h. let p : 0 < byte = pos h in simp (lt-ltb 0 before h, ne_eqb byte 0 (λ e. omega arith)))
    (λ h. simp (le-ltb 0 before h)) (split 0 before)

-- a last group
read_last : (before x : ℕ) (left : List ℕ) → x < 128 → (4 ≤ before → x ≤ 15) → (0 < before → 0 < x)
    → read_groups before (x ∷ left) ≡ got x left
unfolding read_groups
read_last before x left last fine pos = simp (not_over before x fine, lt-ltb x 128 last, not_longer before x pos)

-- a group with more to follow
read_more : (before byte : ℕ) (left : List ℕ) → 128 ≤ byte → before < 4
    → read_groups before (byte ∷ left) ≡ above 128 (byte - 128) (read_groups (suc before) left)
unfolding read_groups
read_more before byte left follows early = simp (not_over before byte (λ h. absurd (omega arith)), le-ltb byte 128 follows)

pub groups_last : (most x : ℕ) → x < 128 → groups (suc most) x ≡ x ∷ []
unfolding groups
groups_last most x last = simp (lt-ltb x 128 last)

pub groups_more : (most x : ℕ) → 128 ≤ x → groups (suc most) x ≡ (128 + x % 128) ∷ groups most (x / 128)
unfolding groups
groups_more most x follows = simp (le-ltb x 128 follows)

read_groups_lem : (more x before : ℕ) (left : List ℕ) → before + more ≡ 4 → x < 16 * 128 ^ more → (0 < before → 0 < x)
    → read_groups before (groups (suc more) x ++ left) ≡ got x left
read_groups_lem zero x before left four small pos =
    rw (groups_last zero x (omega arith)) (read_last before x left (omega arith) (λ h. omega arith) pos)
read_groups_lem (suc more) x before left four small pos = go (read_groups_lem more (x / 128) (suc before) left) (split x 128)
  where
    go : (suc before + more ≡ 4 → x / 128 < 16 * 128 ^ more → (0 < suc before → 0 < x / 128)
        → read_groups (suc before) (groups (suc more) (x / 128) ++ left) ≡ got (x / 128) left)
        → (x < 128) ⊎ (128 ≤ x) → read_groups before (groups (suc (suc more)) x ++ left) ≡ got x left
    go rest (inl last) = rw (groups_last (suc more) x last) (read_last before x left last (λ h. absurd (omega arith)) pos)
    go rest (inr follows) =
        let power : 128 ^ suc more ≡ 128 ^ more * 128 = pow-suc 128 more in
        let whole : 128 + x % 128 - 128 + 128 * (x / 128) ≡ x = omega arith in
        rw (groups_more (suc more) x follows)
        (read_more before (128 + x % 128) (groups (suc more) (x / 128) ++ left) (omega arith) (omega arith)
        ∙ ap (above 128 (128 + x % 128 - 128)) (rest (omega arith) (omega arith) (λ h. omega arith)) ∙ rw whole)

-- What a number's stored form reads back to, with anything after it.
pub read_stored : (x : ℕ) → x < 2 ^ 32 → (left : List ℕ) → read_number (stored x ++ left) ≡ got x left
read_stored x small left = read_groups_lem 4 x 0 left refl small (λ h. absurd (omega arith))

-- what stands above a lowest group was read
above_got : (low x : ℕ) (left : List ℕ) (parse : Parse ℕ) → above 128 low parse ≡ got x left
    → (high : ℕ) × (parse ≡ got high left) × (x ≡ low + 128 * high)
above_got low x left (got high rest) e = (high, cc, cc)
above_got low x left (refused r) e = let z : ◌≡◌ {A = ℕ} 0 1 = cc in absurd (omega arith)

-- What a number that was read says of the bytes, where `before` groups came first and `more` could follow this one.
record Taken (bytes left : List ℕ) (before more x : ℕ) : Type 0 where
  form : groups (suc more) x ++ left ≡ bytes
  small : x < 16 * 128 ^ more
  positive : 0 < before → 0 < x

taken_more : (byte : ℕ) (bytes left : List ℕ) (before more x high : ℕ) → 128 ≤ byte → byte < 256
    → x ≡ byte - 128 + 128 * high → Taken bytes left (suc before) more high → Taken (byte ∷ bytes) left before (suc more) x
taken_more byte bytes left before more x high follows whole is taken =
    let above_none : 0 < high = taken.positive (omega arith) in
    let power : 128 ^ suc more ≡ 128 ^ more * 128 = pow-suc 128 more in
    let low : 128 + x % 128 ≡ byte = omega arith in
    let rest : x / 128 ≡ high = omega arith in
    record {
      form = rw (groups_more (suc more) x (omega arith), low, rest) (ap (λ (l : List ℕ). byte ∷ l) taken.form);
      small = omega (arith, taken.small);
      positive = λ h. omega arith;
    }

module _ (byte before x : ℕ) (bytes left : List ℕ) (e : read_groups before (byte ∷ bytes) ≡ got x left) where
  -- a refusal is no number
  not_refused : (r : ℕ) → read_groups before (byte ∷ bytes) ≡ refused r → ⊥
  not_refused r f = let z : ◌≡◌ {A = ℕ} 0 1 = cc in omega arith

  fifth_low : 4 ≤ before → byte ≤ 15
  unfolding read_groups
  fifth_low fifth =
      ⊎_elim (λ h. absurd (not_refused 2 (simp (le-leb 4 before fifth, lt-ltb 15 byte h)))) (λ h. h) (split 15 byte)

  highest_positive : byte < 128 → 0 < before → 0 < byte
  unfolding read_groups
  highest_positive last above-others =
      ⊎_elim (λ h. h)
      (λ h. let none : byte ≡ 0 = omega arith in
      absurd (not_refused 2
      (simp (not_over before byte fifth_low, lt-ltb byte 128 last, lt-ltb 0 before above-others, eq-eqb byte 0 none))))
      (split 0 byte)

  taken_last : (more : ℕ) → before + more ≡ 4 → byte < 128 → Taken (byte ∷ bytes) left before more x
  taken_last more four last =
      let reads : read_groups before (byte ∷ bytes) ≡ got byte bytes = read_last before byte bytes last fifth_low (highest_positive last) in
      let is : x ≡ byte = cc in
      let ends : left ≡ bytes = cc in
      record {
        form = rw (is, ends, groups_last more byte last);
        small = rw is (in_reach more four);
        positive = λ h. rw is (highest_positive last h);
      }
    where
      -- a group that may be the fifth is below 16, and any other has room for seven bits
      in_reach : (more : ℕ) → before + more ≡ 4 → byte < 16 * 128 ^ more
      in_reach zero four = omega (arith, fifth_low (omega arith))
      in_reach (suc more) four =
          let power : 128 ^ suc more ≡ 128 ^ more * 128 = pow-suc 128 more in
          omega (arith, one-le-pow more 128 (omega arith))

taken : (bytes : List ℕ) (before more x : ℕ) (left : List ℕ) → before + more ≡ 4 → Bytes bytes → read_groups before bytes ≡ got x left
    → Taken bytes left before more x
unfolding read_groups
taken [] before more x left four all e = let z : ◌≡◌ {A = ℕ} 0 1 = cc in absurd (omega arith)
taken (byte ∷ bytes) before more x left four all e = go more four (λ m y. taken bytes (suc before) m y left) (split byte 128)
  where
    go : (more : ℕ) → before + more ≡ 4
        → ((m y : ℕ) → suc before + m ≡ 4 → Bytes bytes → read_groups (suc before) bytes ≡ got y left → Taken bytes left (suc before) m y)
        → (byte < 128) ⊎ (128 ≤ byte) → Taken (byte ∷ bytes) left before more x
    go more four rest (inl last) = taken_last byte before x bytes left e more four last
    go zero four rest (inr follows) = absurd (omega (arith, fifth_low byte before x bytes left e (omega arith)))
    go (suc more) four rest (inr follows) =
        let high = above_got (byte - 128) x left (read_groups (suc before) bytes)
        (sym (read_more before byte bytes follows (omega arith)) ∙ e) in
        taken_more byte bytes left before more x high.0 follows (all 0) high.2
        (rest more high.0 (omega arith) (λ k. all (suc k)) high.1)

-- A number that was read: its stored form is the bytes that were read for it, and it fits in 32 bits.
pub stored_read : (bytes : List ℕ) (x : ℕ) (left : List ℕ) → Bytes bytes → read_number bytes ≡ got x left → stored x ++ left ≡ bytes
stored_read bytes x left all e = (taken bytes 0 4 x left refl all e).form

pub number_small : (bytes : List ℕ) (x : ℕ) (left : List ℕ) → Bytes bytes → read_number bytes ≡ got x left → x < 2 ^ 32
number_small bytes x left all e = (taken bytes 0 4 x left refl all e).small
