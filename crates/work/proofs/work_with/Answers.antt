-- `work_with` meets its contract: field 1 tells whether there are two faces, and demand 3 is that of the call for one face or for both.
-- Assumes nothing.
use mathlib.Core.Path.{◌≡◌, sym, ap, ◌∙◌}
use mathlib.Core.Bool.{true, false}
use Rattle.joint.specs.Faces.{two_faced}
use Rattle.joint.specs.declared.Face.{Face}
use Rattle.outcome.specs.Outcome.{face_meaning}
use Rattle.work.specs.Work.{of_one_face, worked_faces, worked_with}
use Rattle.work.proofs.Cases.{of_two, of_one, demand_alone}
use Rattle.work.proofs.work_with.Goals as goal
use Rattle.work.proofs.work_with.Goals.{After-work_connection}

pub returns-then-is_two_faced-clause-equals : goal.returns-then-is_two_faced-clause-equals
returns-then-is_two_faced-clause-equals c =
    let both : two_faced c.args.joint.now.face.rows ≡ true = sym c.is_two_faced.ensures ∙ c.if-is_two_faced.true in
    let j = c.args.joint.now in
    let area = c.args.area in
    c.work_faces.ensures.equals ∙ ap (λ (face : Face). worked_faces j.column j.bolts area face j.other) c.first_face-first.ensures
    ∙ of_two area j both

-- there is one face
alone : (c : After-work_connection) → two_faced c.args.joint.now.face.rows ≡ false
alone c = sym c.is_two_faced.ensures ∙ c.if-is_two_faced.false

worked_alone : (c : After-work_connection) → of_one_face (face_meaning c.work_connection.result) ≡ worked_with c.args.area c.args.joint.now
worked_alone c = ap of_one_face c.work_connection.ensures.equals ∙ of_one c.args.area c.args.joint.now (alone c)

pub returns-in-Err-clause-equals : goal.returns-in-Err-clause-equals
returns-in-Err-clause-equals c =
    rw c.on.ensures
    (ap of_one_face (ap face_meaning (sym c.in-Err.is)) ∙ worked_alone (goal.at.returns-in-Err-clause-equals c).After-work_connection)

pub returns-in-Ok : goal.returns-in-Ok
returns-in-Ok c =
    let here = (goal.at.returns-in-Ok c).After-work_connection in
    record {
      equals = ap of_one_face (ap face_meaning (sym c.in-Ok.is)) ∙ worked_alone here;
      demand = demand_alone c.args.area c.args.joint.now _ (alone here) (rw c.in-Ok.is at c.work_connection.ensures.demand);
    }
