-- `work` meets its contract: the list of refusals is cut at 15, and the admission tells what comes of those before it; the cap's case
-- tells whether 15 holds, and else the result is the whole one. Assumes nothing.
use Rattle.std.proofs.Common.{rules, Some, None, Err}
use mathlib.Core.Path.{◌≡◌, ap, ◌∙◌}
use Rattle.governing.specs.Governing.{force_of}
use Rattle.governing.specs.Answers.{cap_case}
use Rattle.outcome.specs.Outcome.{face_meaning}
use Rattle.outcome.specs.declared.FaceRefusal.TheVariants.{NoCap}
use Rattle.connection.specs.OneFace.{governing_of}
use Rattle.connection.specs.Connection.{completed}
use Rattle.connection.proofs.Answers.{refused_before_15, refused_15, passes_15}
use Rattle.connection.proofs.FaceAtWork.work.Goals as goal
use Rattle.connection.proofs.FaceAtWork.work.Goals.{After-tension_cap}

pub returns-in_err-admit : goal.returns-in_err-admit
returns-in_err-admit c =
    let told : c.from_residual.result ≡ Err c.in_err-admit.field-0.0 = search rules in
    ap face_meaning told ∙ refused_before_15 _ _ _ _ _ (c.admit.ensures.value c.args.panel_counts) _ c.in_err-admit.was

-- the cap's case is the definition's
case : (c : After-tension_cap) → let s = c.args.self.now in c.tension_cap.result ≡ cap_case s.face.now.loads (force_of (governing_of c.args.panel_counts s.column.now s.face.now))
case c = c.tension_cap.ensures ∙ ap (cap_case c.args.self.now.face.now.loads) (c.force.ensures ∙ ap force_of c.governing-check.ensures.0)

pub returns-in_err-cap : goal.returns-in_err-cap
returns-in_err-cap c =
    let here = (goal.at.returns-in_err-cap c).After-tension_cap in
    let told : c.from_residual-in_err-cap.result ≡ Err NoCap = search rules in
    let none : None ≡ c.tension_cap.result = search rules in
    ap face_meaning told
    ∙ refused_15 _ _ _ _ _ (c.admit.ensures.value c.args.panel_counts) c.in_ok-admit.was (none ∙ case here)

pub returns : goal.returns
returns c =
    let here = (goal.at.returns c).After-tension_cap in
    let some : Some c.in_ok-cap.cap ≡ c.tension_cap.result = search rules in
    let passed = passes_15 _ _ _ _ _ (c.admit.ensures.value c.args.panel_counts) c.in_ok-admit.was _ (some ∙ case here) in
    ap completed (c.result.ensures _ (record { governs = c.governing-check.ensures.0; newtons = passed.1 })) ∙ passed.0
