-- `check_sizes` meets its contract. The invariant: what the sizes passed leave of each test, with that of the sizes left, is the test of all.
-- Assumes nothing.
use mathlib.Core.Path.{◌≡◌, sym, ◌∙◌}
use mathlib.Core.List.{◌∷◌, []}
use Rattle.arithmetic.specs.Checks.{first_failing}
use Rattle.bolttable.specs.Loading.{Taken, Refused}
use Rattle.bolttable.specs.Steps.{all_sizes, sizes_check}
use Rattle.bolttable.proofs.Checks.{one_outside, one_more, none_after}
use Rattle.bolttable.proofs.Sizes.{next_size, no_size}
use Rattle.bolttable.proofs.check_sizes.Goals as goal
use Rattle.bolttable.proofs.check_sizes.Goals.{In-None}

pub returns-then-not-is_in_range : goal.returns-then-not-is_in_range
returns-then-not-is_in_range c =
    let l = c.loop-diameter in
    let left = next_size _ _ l.yielded _ _ c.next.new.self (cc) (cc) l.yielded_by c.next.ensures.steps c.in-Some.is in
    one_outside l.invariant left (sym c.is_in_range.ensures ∙ c.if-not-is_in_range.true)

pub loop-diameter-preserved : goal.loop-diameter-preserved
loop-diameter-preserved c =
    let l = c.loop-diameter in
    let left = next_size _ _ l.yielded _ _ c.next.new.self (cc) (cc) l.yielded_by c.next.ensures.steps c.in-Some.is in
    one_more l.invariant left (sym c.is_in_range.ensures ∙ c.if-not-is_in_range.false)

-- after the last size the tests that were kept decide
decided : (c : In-None) → sizes_check (all_sizes c.args.diameters.now c.args.areas.now)
    ≡ first_failing Taken Refused ((17, c.loop-diameter.rise) ∷ (18, c.loop-diameter.fit) ∷ [])
decided c =
    let l = c.loop-diameter in
    none_after l.invariant (no_size _ _ l.yielded _ _ c.next.new.self (cc) (cc) l.yielded_by c.next.ensures.steps c.in-None.is)

pub returns-then-not-rise : goal.returns-then-not-rise
unfolding first_failing
returns-then-not-rise c = rw (decided (goal.at.returns-then-not-rise c).In-None, c.if-not-rise.true)

pub returns-then-not-fit : goal.returns-then-not-fit
unfolding first_failing
returns-then-not-fit c = rw (decided (goal.at.returns-then-not-fit c).In-None, c.if-not-rise.false, c.if-not-fit.true)

pub returns : goal.returns
unfolding first_failing
returns c = rw (decided (goal.at.returns c).In-None, c.if-not-rise.false, c.if-not-fit.false)
