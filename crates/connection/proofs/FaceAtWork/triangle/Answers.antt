-- `triangle` meets its contract: the test is the definition's, of the face's own strengths. Assumes nothing.
use Rattle.std.proofs.Common.{sym, ap, ◌∙◌, ◌≡◌, Some, None, cond, Bool, true, false}
use Rattle.strength.specs.Thickness.{both_too_thick}
use Rattle.strength.proofs.Ranges.{steel_in_range}
use Rattle.connection.specs.OneFace.{steel_of, face_triangle, triangle_on}
use Rattle.connection.proofs.FaceAtWork.triangle.Goals as goal
use Rattle.connection.proofs.FaceAtWork.triangle.Goals.{After-both_too_thick}

pub both_too_thick-requires : goal.both_too_thick-requires
both_too_thick-requires c =
    let s = c.args.self.now in
    let known = s.at_work in
    let steel = steel_in_range s.column.now s.face.now.beam s.face.now.plate known.column known.face.beam known.face.plate in
    record { column = known.column; plate = known.face.plate; steel = rw known.strengths steel; bolt = known.bolt }

thick : (c : After-both_too_thick) → let s = c.args.self.now in
    c.both_too_thick.result ≡ both_too_thick s.column.now s.face.now.plate (steel_of s.column.now s.face.now) s.bolt
thick c =
    let s = c.args.self.now in
    c.both_too_thick.ensures ∙ ap (λ steel. both_too_thick s.column.now s.face.now.plate steel s.bolt) s.at_work.strengths

-- the face's triangle where the test says so
by_test : (c : After-both_too_thick) (test : Bool) → c.both_too_thick.result ≡ test
    → let s = c.args.self.now in
    cond test (Some (face_triangle s.face.now)) None ≡ triangle_on s.column.now s.bolt s.face.now
unfolding triangle_on
by_test c test told = sym (ap (λ t. cond t (Some (face_triangle c.args.self.now.face.now)) None) (sym (thick c) ∙ told))

pub returns-then-not-both_too_thick : goal.returns-then-not-both_too_thick
returns-then-not-both_too_thick c = by_test (goal.at.returns-then-not-both_too_thick c).After-both_too_thick false c.if-not-both_too_thick.true

pub returns : goal.returns
returns c = by_test (goal.at.returns c).After-both_too_thick true c.if-not-both_too_thick.false
