-- What the refusals leave: from an answer that is no refusal, that every test of the list holds, and from those tests what the limits
-- rely on. Assumes nothing.
use mathlib.Core.Path.{◌≡◌, refl, sym, ap, ◌∙◌}
use mathlib.Core.Bool.{Bool, true, false, ◌&&◌, ◌||◌}
use Prim.Native.Nat.{ℕ, suc}
use native.Mathlib.Omega.{arith}
use lib.ListN.{length}
use lib.Dec.{ltb}
use borrow.Author.Tests.{ltb-false, eq-eqb}
use Rattle.std.specs.Prelude.{List, [], ◌∷◌, not, Option, Some, None, Result, Ok, Err, ⊤}
use Rattle.arithmetic.specs.Checks.{Check, first_failing, checks_before, checks_from}
use Rattle.arithmetic.proofs.Checks.{numbered, positive, numbered_holds, one_after_another, cut_at, holds, fails, none_left, of_each}
use Rattle.joint.specs.Ranges.{row_counts}
use Rattle.joint.specs.Fields.{FieldCheck, field_check}
use Rattle.joint.specs.InRange.{ColumnInRange, FaceInRange, InRange}
use Rattle.joint.specs.declared.Bolts.{Bolts}
use Rattle.joint.specs.declared.Column.{Column}
use Rattle.joint.specs.declared.Face.{Face}
use Rattle.joint.proofs.InRange.{in_range}
use Rattle.strength.specs.declared.BoltStrengths.{BoltStrengths}
use Rattle.spacing.specs.Spacing.{least_distance, least_edge, spacing_of}
use Rattle.tension.specs.Admissible.{Admissible}
use Rattle.governing.specs.Governing.{force_of}
use Rattle.governing.specs.Cap.{newtons_of}
use Rattle.governing.specs.Answers.{cap_case}
use Rattle.governing.proofs.Cases.{exceeded, within_cap}
use Rattle.refusals.specs.Refusals.{levers_fall, too_tight}
use Rattle.refusals.proofs.Rows.{falls}
use Rattle.outcome.specs.Outcome.{FaceOutcome, face_meaning}
use Rattle.outcome.specs.declared.FaceRefusal.{FaceRefusal}
use Rattle.outcome.specs.declared.FaceRefusal.TheVariants.{NoCap}
use Rattle.connection.specs.OneFace.{bolt_of, governing_of, cap_of}
use Rattle.connection.specs.Connection.{refused_face, refused_after_10, refusals_after_10, completed, result_of, worked_face, worked_by}
use Rattle.connection.specs.Connection.{worked_connection}
use Rattle.connection.specs.Steps.{admitted_to}

neither : (a b : Bool) → (a || b) ≡ false → (a ≡ false) × (b ≡ false)
neither false b e = (refl, e)
neither true b e = let never : ◌≡◌ {A = ℕ} 0 1 = cc in absurd (omega arith)

-- what refusals 10, 11 and 13 leave
pub admissible : (column : Column) (face : Face) → ColumnInRange column → FaceInRange face → length face.levers ≡ row_counts.high
    → levers_fall face ≡ true → too_tight face.extended (spacing_of column face) ≡ false → Admissible column face
unfolding too_tight
admissible column face c f eight falling loose =
    let past_column = neither _ _ loose in
    let past_plate = neither _ _ past_column.1 in
    let past_extension = neither _ _ past_plate.1 in
    let edges = neither _ _ past_extension.1 in
    let mx = (spacing_of column face).extension in
    record {
      column = c;
      face = f;
      falls = falls face.levers face.rows (omega (arith, eight, f.rows.high)) falling;
      column_m = ltb-false _ least_distance past_column.0;
      plate_m = ltb-false _ least_distance past_plate.0;
      extension_m = λ extended.
          ltb-false _ least_distance
          (ap (λ b. b && ltb mx least_distance) (sym (eq-eqb face.extended 1 extended)) ∙ past_extension.0);
      column_edge = ltb-false _ least_edge edges.0;
      plate_edge = ltb-false _ least_edge edges.1;
    }

-- a refusal has its number
pub refusal_is : (number field : ℕ) (answer : FaceOutcome) → refused_face number field ≡ answer → answer.number ≡ 0 → number ≡ 0
refusal_is number field answer e none = ap (λ a. a.number) e ∙ none

-- where a face is not refused every test holds, and the answer is the whole result
pub not_refused : (panel_counts : Bool) (column : Column) (bolt : BoltStrengths) (face : Face) (answer : FaceOutcome)
    → worked_face panel_counts column bolt face ≡ answer → answer.number ≡ 0
    → ((number : ℕ) → numbered number (refusals_after_10 panel_counts column bolt face) ≡ true)
    × (completed (result_of panel_counts column bolt face) ≡ answer)
unfolding worked_face refusals_after_10 positive
not_refused panel_counts column bolt face answer e none =
    numbered_holds (completed (result_of panel_counts column bolt face)) refused_after_10 answer
    (λ number refused. let never = refusal_is (suc number) 0 answer refused none in absurd (omega arith))
    (refusals_after_10 panel_counts column bolt face) tt e

-- where a connection is not refused its fields are in range, and the answer is the face's
pub in_range_of : (panel_counts : Bool) (column : Column) (bolts : Bolts) (area : Option ℕ) (face : Face) (answer : FaceOutcome)
    → worked_connection panel_counts column bolts area face ≡ answer → answer.number ≡ 0
    → InRange column bolts area face × (worked_face panel_counts column (bolt_of bolts area) face ≡ answer)
unfolding worked_connection
in_range_of panel_counts column bolts area face answer e none = by_fields (field_check column bolts area face) refl e
  where
    by_fields : (found : FieldCheck) → field_check column bolts area face ≡ found
        → worked_by found (worked_face panel_counts column (bolt_of bolts area) face) ≡ answer
        → InRange column bolts area face × (worked_face panel_counts column (bolt_of bolts area) face ≡ answer)
    by_fields (Ok passed) found w = (in_range column bolts area face found, w)
    by_fields (Err wrong) found w = let never = refusal_is 10 wrong.field answer w none in absurd (omega arith)

-- The list of refusals is cut at 15: those before it are tried first, and where they let a face pass 15 is left, which holds where N
-- leaves no cap.
module _ (panel_counts : Bool) (column : Column) (bolt : BoltStrengths) (face : Face) where
  abbrev all : List Check
  all = refusals_after_10 panel_counts column bolt face

  abbrev passed : FaceOutcome
  passed = completed (result_of panel_counts column bolt face)

  module _ (admission : Result ⊤ FaceRefusal)
      (first : (outcome : FaceOutcome)
      → admitted_to outcome admission ≡ first_failing outcome refused_after_10 (checks_before 15 all)) where
    cut : admitted_to (first_failing passed refused_after_10 (checks_from 15 all)) admission
        ≡ worked_face panel_counts column bolt face
    unfolding worked_face
    cut =
        first (first_failing passed refused_after_10 (checks_from 15 all))
        ∙ sym (one_after_another passed refused_after_10 (checks_before 15 all) (checks_from 15 all))
        ∙ ap (first_failing passed refused_after_10) (cut_at 15 all)

    pub refused_before_15 : (refusal : FaceRefusal) → admission ≡ Err refusal
        → face_meaning (Err refusal) ≡ worked_face panel_counts column bolt face
    refused_before_15 refusal e = ap (admitted_to (first_failing passed refused_after_10 (checks_from 15 all))) (sym e) ∙ cut

    pub by_15 : admission ≡ Ok tt
        → first_failing passed refused_after_10 (checks_from 15 all) ≡ worked_face panel_counts column bolt face
    by_15 e = ap (admitted_to (first_failing passed refused_after_10 (checks_from 15 all))) (sym e) ∙ cut

    -- and by the cap's case
    pub refused_15 : admission ≡ Ok tt → None ≡ cap_case face.loads (force_of (governing_of panel_counts column face))
        → face_meaning (Err NoCap) ≡ worked_face panel_counts column bolt face
    unfolding refusals_after_10 checks_from
    refused_15 e none = sym (fails passed refused_after_10 15 _ _ (ap not (exceeded _ _ none))) ∙ by_15 e

    pub passes_15 : admission ≡ Ok tt → (cap : ℕ) → Some cap ≡ cap_case face.loads (force_of (governing_of panel_counts column face))
        → (passed ≡ worked_face panel_counts column bolt face) × (cap ≡ newtons_of (cap_of panel_counts column face))
    unfolding refusals_after_10 checks_from cap_of
    passes_15 e cap some =
        let within = within_cap _ _ cap some in
        (sym (holds passed refused_after_10 15 _ _ (ap not within.0) ∙ none_left _ _) ∙ by_15 e, within.1)

-- 14 is told of no face, whatever its fields are: of the numbers in the list none is 14.
none_is_fourteen : (a b c d e : Bool)
    → first_failing 0 (λ number. number) ((11, a) ∷ (19, b) ∷ (12, c) ∷ (13, d) ∷ (15, e) ∷ []) ≡ 14 → ⊥
unfolding first_failing
none_is_fourteen false b c d e told = omega (arith, told)
none_is_fourteen true false c d e told = omega (arith, told)
none_is_fourteen true true false d e told = omega (arith, told)
none_is_fourteen true true true false e told = omega (arith, told)
none_is_fourteen true true true true false told = omega (arith, told)
none_is_fourteen true true true true true told = omega (arith, told)

pub never_fourteen : (panel_counts : Bool) (column : Column) (bolts : Bolts) (area : Option ℕ) (face : Face)
    → (worked_connection panel_counts column bolts area face).number ≡ 14 → ⊥
unfolding worked_connection worked_face refusals_after_10
never_fourteen panel_counts column bolts area face = by_fields (field_check column bolts area face)
  where
    by_fields : (found : FieldCheck) → (worked_by found (worked_face panel_counts column (bolt_of bolts area) face)).number ≡ 14 → ⊥
    by_fields (Ok passed) told =
        let checks = refusals_after_10 panel_counts column (bolt_of bolts area) face in
        let number = of_each (λ (a : FaceOutcome). a.number) (completed (result_of panel_counts column (bolt_of bolts area) face)) refused_after_10 checks in
        none_is_fourteen _ _ _ _ _ (sym number ∙ told)
    by_fields (Err found) told = omega (arith, told)
