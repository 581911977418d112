use mathlib.Core.Path.{sym, refl}
use Rattle.std.specs.Prelude.{None}
use Rattle.std.proofs.lemmas.Slice.Zip.{either_empty_from_Zip}
use Rattle.vectors.proofs.Differences.{none_passed, one_alike, one_differs, all_alike, lengths_differ}
use Rattle.vectors.proofs.compare.compare.Goals as goal

pub returns-then-are-should : goal.returns-then-are-should
returns-then-are-should c = sym (lengths_differ _ _ c.if-are-should.true)

pub loop-place-init : goal.loop-place-init
loop-place-init c = none_passed _ _ c.if-are-should.false _ _ _ (cc) (cc) (cc)

pub returns-then-is-should : goal.returns-then-is-should
returns-then-is-should c =
    let turn = c.in-Some.ensures.steps in
    rw (turn.1) (one_differs _ _ _ _ _ _ _ _ _ c.loop-place.invariant turn.0.0 turn.0.1 c.if-is-should.true)

pub loop-place-preserved : goal.loop-place-preserved
loop-place-preserved c =
    let turn = c.in-Some.ensures.steps in
    rw (turn.2) (one_alike _ _ _ _ _ _ _ _ _ c.loop-place.invariant turn.0.0 turn.0.1 c.if-is-should.false)

pub returns : goal.returns
returns c = all_alike _ _ _ _ _ c.loop-place.invariant (either_empty_from_Zip _ c.next.new.self.iter None refl c.in-None.ensures.steps.0)
