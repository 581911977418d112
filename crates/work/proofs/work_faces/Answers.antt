-- `work_faces` meets its contract: each return is a case of the definition, and each face that is taken has demand 3 by its own call.
-- Assumes nothing.
use Rattle.std.proofs.Common.{rules, false, Ok, Err}
use mathlib.Core.Path.{◌≡◌, refl, sym, ap, ◌∙◌}
use Rattle.connection.specs.Connection.{worked_connection}
use Rattle.connection.proofs.Sums.{taken}
use Rattle.outcome.specs.Outcome.{face_meaning, outcome_meaning}
use Rattle.outcome.specs.declared.RefusedFace.TheVariants.{First, Second}
use Rattle.work.proofs.Cases.{first_refused, second_refused, both_worked}
use Rattle.work.proofs.work_faces.Goals as goal
use Rattle.work.proofs.work_faces.Goals.{In_ok-one, In_ok-two}

-- the first face is worked, and the second
one_worked : (c : In_ok-one)
    → let a = c.args.shared.now in face_meaning (Ok c.in_ok-one.one) ≡ worked_connection false a.column a.bolts a.area c.args.first.now
one_worked c =
    let answer : c.work_connection.result ≡ Ok c.in_ok-one.one = search rules in
    ap face_meaning (sym answer) ∙ c.work_connection.ensures.equals

two_worked : (c : In_ok-two)
    → let a = c.args.shared.now in face_meaning (Ok c.in_ok-two.two) ≡ worked_connection false a.column a.bolts a.area c.args.second.now
two_worked c =
    let answer : c.work_connection-2.result ≡ Ok c.in_ok-two.two = search rules in
    ap face_meaning (sym answer) ∙ c.work_connection-2.ensures.equals

pub returns-in_err-one-clause-equals : goal.returns-in_err-one-clause-equals
returns-in_err-one-clause-equals c =
    let a = c.args.shared.now in
    let refusal = c.in_err-one.field-0.0.refusal in
    let told : c.from_residual.result ≡ Err (record { refusal = refusal; face = First }) = search rules in
    let answer : c.work_connection.result ≡ Err refusal = search rules in
    ap outcome_meaning told
    ∙ first_refused a.column a.bolts a.area c.args.first.now c.args.second.now refusal (ap face_meaning (sym answer) ∙ c.work_connection.ensures.equals)

pub returns-in_err-two-clause-equals : goal.returns-in_err-two-clause-equals
returns-in_err-two-clause-equals c =
    let here = (goal.at.returns-in_err-two-clause-equals c).In_ok-one in
    let a = c.args.shared.now in
    let refusal = c.in_err-two.field-0.0.refusal in
    let told : c.from_residual-in_err-two.result ≡ Err (record { refusal = refusal; face = Second }) = search rules in
    let answer : c.work_connection-2.result ≡ Err refusal = search rules in
    ap outcome_meaning told
    ∙ second_refused a.column a.bolts a.area c.args.first.now c.args.second.now c.in_ok-one.one (one_worked here) refusal
    (ap face_meaning (sym answer) ∙ c.work_connection-2.ensures.equals)

pub panel_passes-panel_passes-requires : goal.panel_passes-panel_passes-requires
panel_passes-panel_passes-requires c =
    let here = goal.at.panel_passes-panel_passes-requires c in
    let a = c.args.shared.now in
    let first = taken false a.column a.bolts a.area c.args.first.now (face_meaning (Ok c.in_ok-one.one)) (sym (one_worked here.In_ok-one)) refl in
    let second = taken false a.column a.bolts a.area c.args.second.now (face_meaning (Ok c.in_ok-two.two)) (sym (two_worked here.In_ok-two)) refl in (
      first.0.column,
      record {
        first_small = first.1;
        first_loads = first.0.face.loads;
        second_small = second.1;
        second_loads = second.0.face.loads;
      },
    )

pub returns : goal.returns
returns c =
    let here = goal.at.returns c in
    let a = c.args.shared.now in
    let one : c.work_connection.result ≡ Ok c.in_ok-one.one = search rules in
    let two : c.work_connection-2.result ≡ Ok c.in_ok-two.two = search rules in
    record {
      equals = (λ i. record {
        refusal = record { number = 0; field = 0; face = 0 };
        result = c.in_ok-one.one;
        other = c.in_ok-two.two;
        panel = c.panel_passes-panel_passes.ensures i;
      })
          ∙ both_worked a.column a.bolts a.area c.args.first.now c.args.second.now c.in_ok-one.one (one_worked here.In_ok-one) c.in_ok-two.two
          (two_worked here.In_ok-two);
      demand = record { of_first = rw one at c.work_connection.ensures.demand; of_second = rw two at c.work_connection-2.ensures.demand };
    }
