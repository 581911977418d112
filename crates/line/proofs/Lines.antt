-- What a line of the sheet is made of, and how long it can be; and the lines of an outcome, case by case. Assumes nothing.
use Prim.Native.Nat.{ℕ, ◌+◌, ◌*◌, ◌≤◌, min}
use mathlib.Core.Path.{◌≡◌, refl, sym, ap, ◌∙◌}
use mathlib.Core.List.{List, [], ◌∷◌, ◌++◌, map, append_assoc, append-nil}
use mathlib.Core.Bool.{Bool, true, false, cond}
use Rattle.std.specs.Prelude.{Option, Some, None, Result, Ok, Err}
use native.Mathlib.Omega.{arith}
use borrow.Author.Tests.{eq-eqb, ne_eqb}
use lib.Dec.{eqb}
use lib.ListN.{length, take, length-append, length-take}
use Rattle.outcome.specs.declared.FaceResult.{FaceResult}
use Rattle.outcome.specs.declared.FaceRefusal.{FaceRefusal}
use Rattle.outcome.specs.declared.FaceRefusal.TheVariants.{OutOfRange, LeversDontFall, RowsTooClose, RowOutOfPlace, TooTight, NoCap}
use Rattle.outcome.specs.declared.JointRefusal.{JointRefusal}
use Rattle.outcome.specs.declared.SecondFace.{SecondFace}
use Rattle.outcome.specs.declared.Worked.{Worked}
use Rattle.outcome.specs.Outcome.{Outcome, PanelVerdict, NotAsked, Passes, Fails, Refusal, number_of, outcome_meaning, second_result, second_panel}
use Rattle.items.specs.Digits.{decimal}
use Rattle.items.specs.Items.{spaced, letter}
use Rattle.items.proofs.Numerals.{decimal_short}
use Rattle.items.proofs.Items.{items, items_append, items_short, letters_size, spaced-append}
use Rattle.line.specs.Steps.{refusal_begun, field_items, face_items}
use Rattle.line.specs.Longest.{letter_count, most_line}
use Rattle.line.specs.Line.{Line, verdict_letter, letters_of, figures_of, row_forces, is_asked, panel_letter, shown_letters, result_line, refusal_line}
use Rattle.line.specs.Line.{refusal_items, face_lines, outcome_lines, concatenated}

-- ---- what a line is made of

pub read_parts : {told : ℕ} (number refusal : ℕ) → told ≡ refusal
    → refusal_line number (refusal ∷ []) ≡ refusal_begun number told ++ (10 ∷ [])
unfolding refusal_line spaced
read_parts number refusal tells = rw tells (sym (append_assoc (decimal number) _ _))

refusal_more : (number refusal : ℕ) (field face : List ℕ)
    → refusal_line number (refusal ∷ (field ++ face))
    ≡ refusal_begun number refusal ++ (items decimal field ++ (items decimal face ++ (10 ∷ [])))
unfolding refusal_line spaced
refusal_more number refusal field face = simp (items_append, append_assoc, append-nil)

pub work_parts : {told : ℕ} (number : ℕ) (refused : JointRefusal) → told ≡ number_of refused.refusal
    → refusal_line number (refusal_items (outcome_meaning (Err refused)).refusal)
    ≡ refusal_begun number told ++ (items decimal (field_items refused.refusal) ++ (items decimal (face_items refused.face) ++ (10 ∷ [])))
unfolding refusal_items
work_parts number refused tells =
    rw tells (refusal_more number (number_of refused.refusal) (field_items refused.refusal) (face_items refused.face))

pub field_none : (refusal : FaceRefusal) → ((field : ℕ) → refusal ≡ OutOfRange field → ⊥) → field_items refusal ≡ []
field_none (OutOfRange field) not = absurd (not field refl)
field_none LeversDontFall not = refl
field_none RowsTooClose not = refl
field_none RowOutOfPlace not = refl
field_none TooTight not = refl
field_none NoCap not = refl

module _ (number : ℕ) (shown : List ℕ) where
  pub refusal_size : length (refusal_line number shown) ≡ length (decimal number) + length (items decimal shown) + 3
  unfolding refusal_line spaced
  refusal_size = rw (length-append (decimal number)) (rw (length-append (items decimal shown)) (omega arith))

  pub refusal_short : length shown ≤ 3 → length (refusal_line number shown) ≤ most_line
  refusal_short few = omega (arith, refusal_size, decimal_short number, items_short shown)

pub rows_parts : {told count : ℕ} (rows : ℕ) (forces : List ℕ) → told ≡ rows → count ≡ min rows 8
    → items decimal (rows ∷ row_forces rows forces) ≡ items decimal (told ∷ []) ++ items decimal (take count forces)
rows_parts rows forces tells shown = rw (tells, shown) (items_append decimal (rows ∷ []) (row_forces rows forces))

three_parts : (first : List ℕ) (a b c : List (List ℕ)) (end : List ℕ)
    → first ++ (spaced (a ++ (b ++ c)) ++ end) ≡ first ++ (spaced a ++ (spaced b ++ (spaced c ++ end)))
three_parts first a b c end = simp (spaced-append, append_assoc)

-- ---- the letters

-- the face's own, and then the panel's, where it is shown
pub letters_parts : {own : List ℕ} (result : FaceResult) (panel : PanelVerdict) → own ≡ letters_of result
    → items letter (shown_letters result panel) ≡ items letter own ++ items letter (cond (is_asked panel) (panel_letter panel ∷ []) [])
letters_parts result panel is = rw is (items_append letter (letters_of result) _)

pub panel_shown : {second : Option SecondFace} {other : SecondFace} {shown : ℕ} → second ≡ Some other
    → shown ≡ verdict_letter other.panel_passes
    → cond (is_asked (second_panel second)) (panel_letter (second_panel second) ∷ []) [] ≡ shown ∷ []
panel_shown {other = other} is shows = rw (is, shows) (go other.panel_passes)
  where
    go : (passes : Bool)
        → let panel = cond passes Passes Fails in cond (is_asked panel) (panel_letter panel ∷ []) [] ≡ verdict_letter passes ∷ []
    go true = refl
    go false = refl

pub letters_few : (panel : PanelVerdict) → letter_count panel ≤ 6
letters_few panel = elim panel as (λ p. letter_count p ≤ 6) [ NotAsked ↦ omega arith | Passes ↦ omega arith | Fails ↦ omega arith ]

letters_count : (result : FaceResult) (panel : PanelVerdict) → length (shown_letters result panel) ≡ letter_count panel
letters_count result panel =
    elim panel as (λ p. length (shown_letters result p) ≡ letter_count p) [ NotAsked ↦ refl | Passes ↦ refl | Fails ↦ refl ]

-- ---- a face's line

module _ (number rows : ℕ) (result : FaceResult) (panel : PanelVerdict) where
  pub result_parts : result_line number rows result panel
      ≡ decimal number
      ++ (items decimal (rows ∷ row_forces rows result.forces)
      ++ (items decimal (figures_of result) ++ (items letter (shown_letters result panel) ++ (10 ∷ []))))
  unfolding result_line
  result_parts =
      three_parts (decimal number) (map decimal (rows ∷ row_forces rows result.forces)) (map decimal (figures_of result))
      (map letter (shown_letters result panel)) (10 ∷ [])

  pub result_size : length (result_line number rows result panel)
      ≡ length (decimal number) + length (items decimal (rows ∷ row_forces rows result.forces))
      + length (items decimal (figures_of result)) + 2 * letter_count panel + 1
  result_size =
      rw result_parts
      (four_sizes (decimal number) (items decimal (rows ∷ row_forces rows result.forces)) (items decimal (figures_of result))
      (items letter (shown_letters result panel))
      (omega (arith, letters_size (shown_letters result panel), letters_count result panel)))
    where
      four_sizes : (a b c d : List ℕ) → length d ≡ 2 * letter_count panel
          → length (a ++ (b ++ (c ++ (d ++ (10 ∷ []))))) ≡ length a + length b + length c + 2 * letter_count panel + 1
      four_sizes a b c d letters = simp length-append (omega arith)

  pub result_short : length (result_line number rows result panel) ≤ most_line
  result_short =
      omega (
        arith,
        result_size,
        decimal_short number,
        items_short (rows ∷ row_forces rows result.forces),
        items_short (figures_of result),
        length-take (min rows 8) result.forces,
        letters_few panel,
      )

-- ---- what a refusal shows

module _ (refusal : Refusal) where
  items_few : length (refusal_items refusal) ≤ 3
  unfolding refusal_items
  items_few = go (eqb refusal.number 10) (eqb refusal.face 0)
    where
      go : (ten none : Bool)
          → length (refusal.number ∷ cond ten (refusal.field ∷ []) [] ++ cond none [] (refusal.face ∷ [])) ≤ 3
      go true true = omega arith
      go true false = omega arith
      go false true = omega arith
      go false false = omega arith

-- ---- lines one after another

pub concatenated-append : (lines others : List Line) → concatenated (lines ++ others) ≡ concatenated lines ++ concatenated others
unfolding concatenated
concatenated-append [] others = refl
concatenated-append (line ∷ lines) others =
    ap (λ (l : List ℕ). line ++ l) (concatenated-append lines others)
    ∙ sym (append_assoc line (concatenated lines) (concatenated others))

pub one_line : (line : Line) → concatenated (line ∷ []) ≡ line
unfolding concatenated
one_line line = append-nil line

-- the lines of a face or two, or that of a refusal
abbrev faces_or_refusal : (first second refusal : Line) (none asked : Bool) → List Line
faces_or_refusal first second refusal none asked = cond none (first ∷ cond asked (second ∷ []) []) (refusal ∷ [])

each_short : (first second refusal : Line) (none asked : Bool) → length first ≤ most_line → length second ≤ most_line
    → length refusal ≤ most_line
    → length (concatenated (faces_or_refusal first second refusal none asked))
    ≤ most_line * length (faces_or_refusal first second refusal none asked)
unfolding concatenated
each_short first second refusal true true a b c = simp length-append (omega arith)
each_short first second refusal true false a b c = simp length-append (omega arith)
each_short first second refusal false asked a b c = simp length-append (omega arith)

few_lines : (first second refusal : Line) (none asked : Bool) → length (faces_or_refusal first second refusal none asked) ≤ cond asked 2 1
few_lines first second refusal true true = omega arith
few_lines first second refusal true false = omega arith
few_lines first second refusal false true = omega arith
few_lines first second refusal false false = omega arith

-- ---- the lines of an outcome, case by case

module _ (number rows other_rows : ℕ) (outcome : Outcome) where
  pub outcome_faces : outcome.refusal.number ≡ 0 → outcome_lines number rows other_rows outcome ≡ face_lines number rows other_rows outcome
  unfolding outcome_lines
  outcome_faces none = rw (eq-eqb outcome.refusal.number 0 none)

  pub outcome_refusal : (outcome.refusal.number ≡ 0 → ⊥)
      → concatenated (outcome_lines number rows other_rows outcome) ≡ refusal_line number (refusal_items outcome.refusal)
  unfolding outcome_lines
  outcome_refusal some = rw (ne_eqb outcome.refusal.number 0 some) (one_line _)

  -- there are two lines at most, and one where the panel isn't asked
  pub outcome_few : length (outcome_lines number rows other_rows outcome) ≤ cond (is_asked outcome.panel) 2 1
  unfolding outcome_lines
  outcome_few = few_lines _ _ _ (eqb outcome.refusal.number 0) (is_asked outcome.panel)

  -- no line is longer than that
  pub outcome_short : length (concatenated (outcome_lines number rows other_rows outcome))
      ≤ most_line * length (outcome_lines number rows other_rows outcome)
  unfolding outcome_lines
  outcome_short =
      each_short _ _ _ (eqb outcome.refusal.number 0) (is_asked outcome.panel)
      (result_short number rows outcome.result outcome.panel) (result_short number other_rows outcome.other outcome.panel)
      (refusal_short number (refusal_items outcome.refusal) (items_few outcome.refusal))

-- ---- the lines of an answer, case by case

-- the line of a second face, where there is one
abbrev pub second_line : (number rows : ℕ) → PanelVerdict → Option SecondFace → List ℕ
second_line number rows panel None = []
second_line number rows panel (Some second) = result_line number rows second.result panel

module _ (number rows : ℕ) (panel : PanelVerdict) {second : Option SecondFace} where
  pub second_some : {other : SecondFace} → second ≡ Some other
      → second_line number rows panel second ≡ result_line number rows other.result panel
  second_some is = ap (second_line number rows panel) is

  pub second_none : second ≡ None → second_line number rows panel second ≡ []
  second_none is = ap (second_line number rows panel) is

asked : (passes : Bool) → is_asked (cond passes Passes Fails) ≡ true
asked true = refl
asked false = refl

number_some : (refusal : FaceRefusal) → number_of refusal ≡ 0 → ⊥
number_some (OutOfRange field) none = absurd (omega arith)
number_some LeversDontFall none = absurd (omega arith)
number_some RowsTooClose none = absurd (omega arith)
number_some RowOutOfPlace none = absurd (omega arith)
number_some TooTight none = absurd (omega arith)
number_some NoCap none = absurd (omega arith)

module _ (number rows other_rows : ℕ) where
  pub worked_lines : {outcome : Result Worked JointRefusal} {worked : Worked} → outcome ≡ Ok worked
      → outcome_lines number rows other_rows (outcome_meaning outcome) ≡ face_lines number rows other_rows (outcome_meaning (Ok worked))
  worked_lines {worked = worked} is = rw is (outcome_faces number rows other_rows (outcome_meaning (Ok worked)) refl)

  pub refused_line : {outcome : Result Worked JointRefusal} {refused : JointRefusal} → outcome ≡ Err refused
      → concatenated (outcome_lines number rows other_rows (outcome_meaning outcome))
      ≡ refusal_line number (refusal_items (outcome_meaning (Err refused)).refusal)
  refused_line {refused = refused} is =
      rw is (outcome_refusal number rows other_rows (outcome_meaning (Err refused)) (number_some refused.refusal))

  -- the line of the first face, and of the second, where there is one
  pub faces_parts : (worked : Worked)
      → concatenated (face_lines number rows other_rows (outcome_meaning (Ok worked)))
      ≡ result_line number rows worked.result (second_panel worked.second) ++ second_line number other_rows (second_panel worked.second) worked.second
  unfolding concatenated
  faces_parts worked = ap (λ (l : List ℕ). result_line number rows worked.result (second_panel worked.second) ++ l) (go worked.second)
    where
      go : (second : Option SecondFace)
          → concatenated (cond (is_asked (second_panel second)) (result_line number other_rows (second_result second) (second_panel second) ∷ []) [])
          ≡ second_line number other_rows (second_panel second) second
      go None = refl
      go (Some second) = rw (asked second.panel_passes) (append-nil _)
