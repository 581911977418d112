-- Demand 3 of the definition: a face that isn't refused has it. Its forces are shared under the limits with the cap and the triangle's among
-- them, so they are the best of the lists that keep all of these (the theorems of `sharing`), and a larger moment carries what a smaller one
-- does.
-- Assumes nothing.
use Rattle.std.specs.Prelude.{Option, Result, Ok, Err, IfOk}
use mathlib.Core.Path.{◌≡◌, refl, sym, ap, subst, ◌∙◌}
use mathlib.Core.Bool.{Bool}
use Prim.Native.Nat.{ℕ}
use mathlib.Core.List.{List}
use lib.ListN.{length}
use lib.Dec.{leb→le, le→leb}
use lib.IntN.{pos}
use borrow.Author.Tests.{not-true}
use Rattle.arithmetic.proofs.Checks.{numbered}
use Rattle.joint.specs.Ranges.{row_counts}
use Rattle.joint.specs.declared.Bolts.{Bolts}
use Rattle.joint.specs.declared.Column.{Column}
use Rattle.joint.specs.declared.Face.{Face}
use Rattle.joint.specs.InRange.{ColumnInRange, FaceInRange}
use Rattle.strength.specs.declared.BoltStrengths.{BoltStrengths}
use Rattle.sharing.specs.Groups.{Table, with_cap}
use Rattle.sharing.specs.Sharing.{Competes}
use Rattle.sharing.specs.Best.{Best}
use Rattle.sharing.proofs.Theorems.{best}
use Rattle.sharing.specs.Triangle.{limits_in, KeepsTriangle}
use Rattle.sharing.proofs.Triangle.{all_are_limits}
use Rattle.tension.specs.Admissible.{Admissible}
use Rattle.governing.specs.Cap.{newtons_of}
use Rattle.governing.proofs.Cases.{cap_newtons}
use Rattle.verdicts.specs.Bending.{carries}
use Rattle.verdicts.proofs.Bending.{carries_monotone}
use Rattle.outcome.specs.Outcome.{FaceOutcome, face_meaning}
use Rattle.outcome.specs.declared.FaceRefusal.{FaceRefusal}
use Rattle.outcome.specs.declared.FaceResult.{FaceResult}
use Rattle.connection.specs.OneFace.{bolt_of, rows_of, levers_of, limit_of, cap_of, triangle_on, forces_of, carries_of}
use Rattle.connection.specs.Connection.{refusals_after_10, result_of, worked_face, worked_connection}
use Rattle.connection.specs.Demand.{CompetesFor, Demand3, Demand3For, programs_list}
use Rattle.allocation.proofs.Answers.{rows_kept}
use Rattle.connection.proofs.Levers.{falling}
use Rattle.connection.proofs.Answers.{admissible, not_refused, in_range_of}

module _ (panel_counts : Bool) (column : Column) (bolt : BoltStrengths) (face : Face) (a : Admissible column face)
    (eight : length face.levers ≡ row_counts.high)
    (cap : cap_of panel_counts column face ≡ pos (newtons_of (cap_of panel_counts column face))) where
  -- the limits, with the cap's and the triangle's
  limits : Table
  limits =
      limits_in (triangle_on column bolt face)
      (with_cap (limit_of column bolt face) (rows_of face) (newtons_of (cap_of panel_counts column face))) (rows_of face)

  -- the program's list is the forces
  own : programs_list face (result_of panel_counts column bolt face).forces ≡ forces_of panel_counts column bolt face
  unfolding result_of forces_of
  own = rows_kept (rows_of face) _

  of_forces : (program : List ℕ) → forces_of panel_counts column bolt face ≡ program → Best limits (rows_of face) program
  unfolding forces_of limits
  of_forces program e = rw e at (best limits (rows_of face))

  -- a list competes with an answer that has them exactly when it competes under these limits
  module _ (places : List ℕ) (e : forces_of panel_counts column bolt face ≡ programs_list face places) (other : List ℕ) where
    abbrev Kept : List ℕ → Type 0
    Kept list = KeepsTriangle (triangle_on column bolt face) (rows_of face) list other

    under : CompetesFor panel_counts column bolt face places other → Competes limits (rows_of face) other
    unfolding limits forces_of
    under c =
        let kept = rw cap at c.capped in
        (all_are_limits (triangle_on column bolt face) _ (rows_of face) _ other).1
        (c.limits, leb→le _ _ kept.le, subst Kept (sym e) c.triangle)

    over : Competes limits (rows_of face) other → CompetesFor panel_counts column bolt face places other
    unfolding limits forces_of
    over c =
        let all = (all_are_limits (triangle_on column bolt face) _ (rows_of face) _ other).0 c in
        record { limits = all.0; capped = rw cap (record { le = le→leb _ _ all.1 }); triangle = subst Kept e all.2 }

  demand : let result = result_of panel_counts column bolt face in
      Demand3 panel_counts column bolt face result.forces result.verdicts.bending
  unfolding result_of
  demand =
      let places = (result_of panel_counts column bolt face).forces in
      let list = programs_list face places in
      let e : forces_of panel_counts column bolt face ≡ list = sym own in
      let b = of_forces list e in
      let falls = falling column face a eight in
      let fails = b.fails (levers_of face) falls (carries face.loads face.beam) (carries_monotone _ _) in
      let same : carries_of face list ≡ carries_of face (forces_of panel_counts column bolt face) = ap (carries_of face) own in
      record {
        competes = over places e _ b.competes;
        sums = λ other c. b.sums other (under places e other c);
        same = λ other c. b.same (levers_of face) falls other (under places e other c);
        fails_in_bending = (
          (λ fail other c. fails.0 (same ∙ fail) other (under places e other c)),
          (λ all. sym same ∙ fails.1 (λ other c. all other (over places e other c))),
        );
      }

-- a face that no refusal turns down
of_face : (panel_counts : Bool) (column : Column) (bolt : BoltStrengths) (face : Face) → ColumnInRange column → FaceInRange face
    → length face.levers ≡ row_counts.high → (answer : FaceOutcome) → worked_face panel_counts column bolt face ≡ answer
    → answer.number ≡ 0
    → Demand3 panel_counts column bolt face answer.result.forces answer.result.verdicts.bending
unfolding refusals_after_10 numbered cap_of
of_face panel_counts column bolt face c f eight answer e none =
    let all = not_refused panel_counts column bolt face answer e none in
    let a = admissible column face c f eight (all.0 11) (not-true _ (all.0 13)) in
    rw (sym all.1) (demand panel_counts column bolt face a eight (cap_newtons _ _ (not-true _ (all.0 15))))

-- Demand 3: for every connection whose answer is no refusal. A face in the machine has eight levers.
pub worked_demand : (panel_counts : Bool) (column : Column) (bolts : Bolts) (area : Option ℕ) (face : Face)
    → length face.levers ≡ row_counts.high
    → (answer : FaceOutcome) → worked_connection panel_counts column bolts area face ≡ answer → answer.number ≡ 0
    → Demand3For panel_counts column bolts area face answer.result
worked_demand panel_counts column bolts area face eight answer e none =
    let taken = in_range_of panel_counts column bolts area face answer e none in
    of_face panel_counts column (bolt_of bolts area) face taken.0.column taken.0.face eight answer taken.1 none

-- of an answer that meets the definition
pub demand_of : (panel_counts : Bool) (column : Column) (bolts : Bolts) (area : Option ℕ) (face : Face)
    → length face.levers ≡ row_counts.high
    → (answer : Result FaceResult FaceRefusal) → face_meaning answer ≡ worked_connection panel_counts column bolts area face
    → IfOk answer (λ result. Demand3For panel_counts column bolts area face result)
demand_of panel_counts column bolts area face eight (Ok result) e = worked_demand panel_counts column bolts area face eight _ (sym e) refl
demand_of panel_counts column bolts area face eight (Err refusal) e = tt
