-- `admit` meets its contract: what its tests leave of a face is what the limits rely on. Assumes nothing.
use Rattle.std.proofs.Common.{sym, ap, ◌∙◌, arith, ◌≡◌, true, false}
use borrow.Author.Tests.{le-leb}
use Rattle.refusals.specs.Refusals.{too_tight, levers_fall}
use Rattle.refusals.proofs.Rows.{front_falls}
use Rattle.spacing.specs.Spacing.{spacing_of}
use Rattle.connection.proofs.Answers.{admissible}
use Rattle.connection.proofs.FaceAtWork.admit.Goals as goal

pub returns-clause-admissible : goal.returns-clause-admissible
returns-clause-admissible c =
    let s = c.args.self.now in
    let fall : levers_fall s.face.now ≡ true = front_falls 1 s.face.now.rows s.face.now.levers (omega (arith, s.at_work.eight_levers, s.at_work.face.rows.high))
    ∙ c.least_pitch-pitch.ensures 1 (record { low = omega arith; high = omega arith })
    ∙ le-leb 1 c.least_pitch-pitch.result (omega (arith, c.if-pitch-lt1.false)) in
    let loose : too_tight s.face.now.extended (spacing_of s.column.now s.face.now) ≡ false = ap (too_tight s.face.now.extended) (sym s.at_work.distances) ∙ sym c.too_tight.ensures ∙ c.if-too_tight.false in
    admissible s.column.now s.face.now s.at_work.column s.at_work.face s.at_work.eight_levers fall loose
