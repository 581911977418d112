-- A face with no rows: no force is shared, and what is reckoned with the forces goes by the empty list. Assumes nothing.
use Rattle.std.specs.Prelude.{Option, Result, Ok, Err, IfOk}
use mathlib.Core.Path.{◌≡◌, refl, sym, ap, subst, ◌∙◌}
use mathlib.Core.Bool.{Bool, true, ◌||◌, or-true}
use mathlib.Core.List.{List, [], ◌∷◌}
use Prim.Native.Nat.{ℕ, ◌*◌, zero-le}
use native.Mathlib.Nat.{zero-add, le_trans, min-le_right}
use Rattle.std.proofs.lemmas.List.{nil_from_length}
use Rattle.std.proofs.Math.Seq.{take-nil}
use lib.Dec.{leb}
use lib.ListN.{length}
use borrow.Author.Tests.{le-leb}
use Rattle.joint.specs.Ranges.{row_counts}
use Rattle.joint.specs.Places.{eight_places}
use Rattle.joint.specs.declared.Bolts.{Bolts}
use Rattle.joint.specs.declared.Column.{Column}
use Rattle.joint.specs.declared.Face.{Face}
use Rattle.strength.specs.declared.BoltStrengths.{BoltStrengths}
use Rattle.sharing.specs.Groups.{total}
use Rattle.sharing.specs.Sharing.{moment, newton_metres}
use Rattle.verdicts.specs.Bending.{carries}
use Rattle.verdicts.specs.Bolts.{bolt_total, bolts_pass}
use Rattle.verdicts.specs.Welds.{top_rows, flange_weld_by, flange_weld_passes, web_weld_passes}
use Rattle.outcome.specs.Outcome.{face_meaning}
use Rattle.outcome.specs.declared.FaceRefusal.{FaceRefusal}
use Rattle.outcome.specs.declared.FaceResult.{FaceResult}
use Rattle.governing.specs.Cap.{newtons_of}
use Rattle.connection.specs.OneFace.{bolt_of, rows_of, levers_of, governing_of, cap_of, forces_of, moment_of}
use Rattle.connection.specs.Connection.{result_of, worked_connection}
use Rattle.connection.specs.Demand.{CompetesFor, programs_list}
use Rattle.connection.specs.NoRows.{result_of_no_rows, WithNoRows}
use Rattle.connection.proofs.Answers.{not_refused, in_range_of}
use Rattle.connection.proofs.Best.{demand_of}
use Rattle.connection.proofs.Forces.{no_forces}

-- of no forces Z is 0, whatever the levers
no_moment : (levers : List ℕ) → moment levers [] ≡ 0
unfolding moment
no_moment [] = refl
no_moment (lever ∷ levers) = refl

-- any flange weld carries force 0
weld_carries : (face : Face) → flange_weld_passes face [] ≡ true
unfolding top_rows flange_weld_by
weld_carries face =
    ap (λ forces. flange_weld_by face (total forces)) (take-nil _)
    ∙ ap (λ b. leb (10 * face.beam.flange) (14 * face.welds.flange) || b) (le-leb _ _ (le_trans (min-le_right _ _) zero-le)) ∙ or-true _

module _ (panel_counts : Bool) (column : Column) (bolt : BoltStrengths) (face : Face) (none : rows_of face ≡ 0) where
  empty : forces_of panel_counts column bolt face ≡ []
  unfolding forces_of
  empty = no_forces _ _ none

  comes_to : result_of panel_counts column bolt face ≡ result_of_no_rows panel_counts column bolt face
  unfolding result_of eight_places newton_metres bolts_pass bolt_total
  comes_to =
      let z : moment_of face (forces_of panel_counts column bolt face) ≡ 0 = ap (moment_of face) empty ∙ no_moment (levers_of face) in
      let bolts = ap (bolts_pass bolt column face.plate face.shear_rows face.loads.shear) empty ∙ ap (leb face.loads.shear) (zero-add _) in
      let flange_weld = ap (flange_weld_passes face) empty ∙ weld_carries face in
      λ i. record {
        forces = eight_places (empty i);
        sum = total (empty i);
        newton_metres = newton_metres (z i);
        cap = newtons_of (cap_of panel_counts column face);
        check = governing_of panel_counts column face;
        verdicts = record {
          bending = carries face.loads face.beam (z i);
          bolts = bolts i;
          flange_weld = flange_weld i;
          web_weld = web_weld_passes face;
        };
      }

-- What the call answers for a face with no rows, where it isn't a refusal. A face in the machine has eight levers.
pub with_no_rows : (panel_counts : Bool) (column : Column) (bolts : Bolts) (area : Option ℕ) (face : Face) → rows_of face ≡ 0
    → length face.levers ≡ row_counts.high
    → (answer : Result FaceResult FaceRefusal) → face_meaning answer ≡ worked_connection panel_counts column bolts area face
    → IfOk answer (λ result. WithNoRows panel_counts column (bolt_of bolts area) face result)
with_no_rows panel_counts column bolts area face none eight (Ok result) e =
    let bolt = bolt_of bolts area in
    let inside = in_range_of panel_counts column bolts area face _ (sym e) refl in
    let whole = (not_refused panel_counts column bolt face _ inside.1 refl).1 in
    let own : result_of panel_counts column bolt face ≡ result = ap (λ a. a.result) whole in
    let list : programs_list face result.forces ≡ [] = rw none refl in
    let demand = demand_of panel_counts column bolts area face eight (Ok result) e in
    record {
      comes_to = sym own ∙ comes_to panel_counts column bolt face none;
      list = list;
      z = no_moment (levers_of face);
      alone = λ other. (
        (λ c. nil_from_length other (c.limits.rows ∙ none)),
        (λ is. subst (CompetesFor panel_counts column bolt face result.forces) (list ∙ sym is) demand.competes),
      );
    }
with_no_rows panel_counts column bolts area face none eight (Err refusal) e = tt
