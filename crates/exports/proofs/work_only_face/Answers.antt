-- `work_only_face` meets its contract: the area is that which the table lists, and what the face's connection comes to is what Work comes
-- to. Assumes nothing.
use Rattle.std.proofs.Common.{◌≡◌, Ok, sym, ap, refl, ◌∙◌}
use Rattle.bolttable.proofs.Areas.{area_in_range}
use Rattle.buffers.specs.Put.{at_front}
use Rattle.outcome.specs.Outcome.{Outcome, face_meaning}
use Rattle.work.specs.Work.{of_one_face, worked}
use Rattle.words.specs.Results.{outcome_words}
use Rattle.words.specs.Tables.{table_of_words}
use Rattle.words.specs.Words.{joint_of_words}
use Rattle.exports.proofs.Calls.{alone_is, alone_demand, demand_words}
use Rattle.exports.proofs.work_only_face.Goals as goal
use Rattle.exports.proofs.work_only_face.Goals.{After-work_connection}

pub invariant_of-shared : goal.invariant_of-shared
invariant_of-shared c = record { area_in_range = rw (c.area_of-area.ensures) (area_in_range _ _) }

is_worked : (c : After-work_connection) → of_one_face (face_meaning c.work_connection.result) ≡ worked (table_of_words c.args.table.words.now) (joint_of_words c.args.fields.words.now)
is_worked c =
    alone_is (table_of_words c.args.table.words.now) (joint_of_words c.args.fields.words.now) c.requires.alone c.one_faced.ensures (rw c.lent.ensures at c.area_of-area.ensures)
    (ap of_one_face c.work_connection.ensures.equals)

pub returns-in-Err : goal.returns-in-Err
returns-in-Err c = record {
  equals = (
    rw c.on.ensures (ap of_one_face (ap face_meaning (sym c.in-Err.is)) ∙ is_worked (goal.at.returns-in-Err c).After-work_connection),
    refl,
  );
  demand = tt;
}

pub returns-in-Ok : goal.returns-in-Ok
returns-in-Ok c =
    let table = table_of_words c.args.table.words.now in
    let joint = joint_of_words c.args.fields.words.now in
    let outcome = of_one_face (face_meaning (Ok c.in-Ok.result)) in
    let is = ap of_one_face (ap face_meaning (sym c.in-Ok.is)) ∙ is_worked (goal.at.returns-in-Ok c).After-work_connection in
    record {
      equals = (
        sym (ap (λ (o : Outcome). o.refusal.number) is),
        c.put_one_face.ensures.words_after ∙ ap (λ (o : Outcome). at_front (outcome_words o) c.args.res.now) is,
      );
      demand =
          rw c.put_one_face.ensures.words_after
          (demand_words c.args.res.now table joint outcome c.put_one_face.ensures.forces_len refl
          (alone_demand table joint c.requires.alone c.one_faced.ensures (rw c.lent.ensures at c.area_of-area.ensures) outcome
          (rw c.in-Ok.is at c.work_connection.ensures.demand)));
    }
