-- `work_connection` meets its contract: a field out of range is refusal 10, and else what the face comes to; and an answer that is no
-- refusal has demand 3, as the definition has it. Assumes nothing.
use Rattle.std.proofs.Common.{rules, Err, length}
use mathlib.Core.Path.{◌≡◌, sym, ap, ◌∙◌}
use Rattle.joint.specs.Ranges.{row_counts}
use Rattle.joint.proofs.InRange.{in_range}
use Rattle.strength.specs.Bolt.{bolt_strengths}
use Rattle.strength.specs.declared.BoltStrengths.{BoltStrengths}
use Rattle.strength.proofs.Ranges.{bolt_in_range}
use Rattle.outcome.specs.Outcome.{FaceOutcome, face_meaning}
use Rattle.outcome.specs.declared.FaceRefusal.TheVariants.{OutOfRange}
use Rattle.connection.specs.OneFace.{bolt_of}
use Rattle.connection.specs.Connection.{worked_face, worked_by, worked_connection}
use Rattle.connection.proofs.Best.{demand_of}
use Rattle.connection.proofs.work_connection.Goals as goal
use Rattle.connection.proofs.work_connection.Goals.{After-bolt_strengths-bolt}

pub returns-in_err-check_fields-clause-equals : goal.returns-in_err-check_fields-clause-equals
unfolding worked_connection
returns-in_err-check_fields-clause-equals c =
    let a = c.args.shared.now in
    let told : c.from_residual.result ≡ Err (OutOfRange c.in_err-check_fields.field-0.0.field) = search rules in
    let face = worked_face c.args.panel_counts a.column (bolt_of a.bolts a.area) c.args.face.now in
    ap face_meaning told ∙ ap (λ found. worked_by found face) (sym c.in_err-check_fields.was ∙ c.check_fields.ensures)

figures : (c : After-bolt_strengths-bolt) → c.bolt_strengths-bolt.result ≡ bolt_of c.args.shared.now.bolts c.args.shared.now.area
figures c = c.bolt_strengths-bolt.ensures ∙ ap (bolt_strengths c.args.shared.now.bolts) c.unwrap_or.ensures

pub new-requires : goal.new-requires
new-requires c =
    let here = (goal.at.new-requires c).After-bolt_strengths-bolt in
    let a = c.args.shared.now in
    let known = in_range a.column a.bolts a.area c.args.face.now (sym c.check_fields.ensures ∙ c.in_ok-check_fields.was) in
    (known.column, rw (figures here) (bolt_in_range a.bolts a.area known.bolts a.area_in_range), known.face)

pub returns : goal.returns
unfolding worked_connection
returns c =
    let here = (goal.at.returns c).After-bolt_strengths-bolt in
    let a = c.args.shared.now in
    let eight : length c.args.face.now.levers ≡ row_counts.high = search rules in
    let work : BoltStrengths → FaceOutcome = λ bolt. worked_face c.args.panel_counts a.column bolt c.args.face.now in
    let own : worked_face c.args.panel_counts c.new.result.column.now c.new.result.bolt c.new.result.face.now ≡ work (bolt_of a.bolts a.area) =
    λ i. worked_face c.args.panel_counts (c.new.ensures.0 i) ((c.new.ensures.1 ∙ figures here) i) (c.new.ensures.2 i) in
    let equals = c.work.ensures ∙ own
    ∙ ap (λ found. worked_by found (work (bolt_of a.bolts a.area))) (sym c.in_ok-check_fields.was ∙ c.check_fields.ensures) in
    record { equals = equals; demand = demand_of c.args.panel_counts a.column a.bolts a.area c.args.face.now eight _ equals }
