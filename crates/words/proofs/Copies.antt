-- Words put into a slice one run after another, the first at its front. Then the words of a part of a slice, as an array. Assumes nothing.
use Rattle.std.proofs.Common.{ℕ, ◌≡◌, ◌+◌, ◌-◌, ◌≤◌, ◌<◌, List, [], ◌∷◌, ◌++◌, length, set, drop, Result, Ok, MatchResult, refl, sym, ap, subst, ◌∙◌, arith, append_assoc}
use Rattle.std.proofs.lemmas.List.{take_at, drop_at, drop-drop, drop_all, append-nil, length-append, length-drop, set-append_right}
use Rattle.std.specs.Array.{IsWholeChunk}
use borrow.Rule.Slice.PartMut.{put_mid}
use Rattle.buffers.specs.Put.{at_front}

-- the words are put up to a place, and past it the slice is as it was before
pub record Front (before slice words : List ℕ) (at : ℕ) : Type 0 where
  pub put : slice ≡ at_front words before
  pub size : length words ≡ at

pub first_word : (before : List ℕ) (word : ℕ) → 1 ≤ length before → Front before (set before 0 word) (word ∷ []) 1
first_word [] word some = absurd (omega arith)
first_word (other ∷ before) word some = record { put = refl; size = refl }

-- a run of words, as an array that was copied
pub first_run : (before : List ℕ) {part array words : List ℕ} {count : ℕ} → part ≡ array → length array ≡ count → array ≡ words
    → Front before (part ++ drop count before) words count
first_run before copied size is =
    record { put = rw (copied, ← size, is); size = ap length (sym is) ∙ size }

-- and one after those that are put
pub put_after : {before slice words part array others : List ℕ} {at count : ℕ} → Front before slice words at → part ≡ array
    → length array ≡ count → array ≡ others
    → Front before (put_mid at count slice part) (words ++ others) (at + count)
put_after {before} {slice} {words} {others = others} {at} {count} front copied size is =
    let run = copied ∙ is in
    let count_is : length others ≡ count = ap length (sym is) ∙ size in
    let head = take_at words (drop (length words) before) at front.size in
    let past = drop_at words (drop (length words) before) at front.size in
    record {
      put = rw (front.put, head, past, run, drop-drop count (length words) before, length-append words others, count_is)
          (sym (append_assoc words others (drop (length words + count) before)));
      size = length-append words others ∙ (rw (front.size, count_is));
    }

-- one word after those that are put
pub word_after : {before slice words : List ℕ} {at : ℕ} (word : ℕ) → Front before slice words at → at < length before
    → Front before (set slice at word) (words ++ (word ∷ [])) (at + 1)
word_after {before} {slice} {words} {at} word front more =
    let past = drop (length words) before in
    let none : at - at ≡ 0 = omega arith in
    let start = first_word past word (omega (arith, length-drop (length words) before, front.size, more)) in
    let here : set (words ++ past) at word ≡ words ++ (word ∷ drop (length words + 1) before) =
    set-append_right words past at at word front.size (omega arith) ∙ (rw (none, start.put, drop-drop 1 (length words) before))
    in
    record {
      put = rw (front.put, here, length-append words (word ∷ [])) (sym (append_assoc words (word ∷ []) (drop (length words + 1) before)));
      size = length-append words (word ∷ []) ∙ (rw front.size);
    }

-- where the words are all that the slice has
pub all_of : {before slice words : List ℕ} {at : ℕ} → Front before slice words at → length before ≡ at → slice ≡ words
all_of {before} {slice} {words} front end =
    rw (front.put, drop_all (length words) before (omega (arith, front.size, end))) (append-nil words)

-- ---- a part of a slice as an array

pub part_is : {E : Type 0} (No : E → Type 0) (part words : List ℕ) (count : ℕ) {answer : Result (List ℕ) E}
    → MatchResult answer (λ array. IsWholeChunk part array count) No → answer ≡ Ok words → words ≡ part
part_is {E} No part words count given e =
    let Given : Result (List ℕ) E → Type 0 = λ answer. MatchResult answer (λ array. IsWholeChunk part array count) No in
    (subst Given e given).same
