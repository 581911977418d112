-- `compression::root::square_root` meets its contract. The invariant: the guess isn't below the root, and fits half a word, so that its
-- square fits a word. The measure is the guess, which falls.
-- Assumes nothing.
use mathlib.Core.Path.{ap}
use Rattle.std.proofs.Common.{Some}
use Prim.Native.Nat.{◌-◌, ◌^◌}
use native.Mathlib.Omega.{arith}
use borrow.Author.Tests.{ne_eqb}
use Rattle.arithmetic.proofs.Bounds.{◌⊗◌, at_most, fits}
use Rattle.compression.specs.Root.{root_case}
use Rattle.compression.proofs.root.Newton.{quotient-lt, next-guess, is-root}
use Rattle.compression.proofs.root.square_root.Goals as goal

pub returns-then-x-eq0 : goal.returns-then-x-eq0
unfolding root_case
returns-then-x-eq0 c = rw c.if-x-eq0.true

pub loop-r-init : goal.loop-r-init
loop-r-init c = c.first_guess-r.ensures

pub overflow_mul-r : goal.overflow_mul-r
overflow_mul-r c =
    let small = at_most {x = c.loop-r.r} {n = 2 ^ 32 - 1} (omega (arith, c.loop-r.invariant.small)) in
    fits (small ⊗ small) tt

pub overflow_add-r : goal.overflow_add-r
overflow_add-r c = omega (arith, quotient-lt c.loop-r-test.true)

pub loop-r-smaller : goal.loop-r-smaller
loop-r-smaller c = omega (arith, quotient-lt c.loop-r-test.true)

pub loop-r-preserved : goal.loop-r-preserved
loop-r-preserved c = next-guess c.loop-r.invariant c.loop-r-test.true

pub returns : goal.returns
unfolding root_case
returns c =
    let x = c.args.x in
    let r = c.loop-r.r in
    rw (ne_eqb x 0 c.if-x-eq0.false)
    (ap Some (is-root x c.ranges.x.fits r c.loop-r-test.false c.loop-r.invariant.above))
