-- `Stub::bending` meets its contract: the products fit, since the stub's figures are bounded, and the quotient that is taken is the lesser of
-- modes 1 and 2 (the laws of `Modes`). Assumes nothing.
use mathlib.Core.Path.{ap}
use Prim.Native.Nat.{◌/◌}
use native.Mathlib.Omega.{arith}
use Rattle.arithmetic.proofs.Bounds.{◌⊗◌, ◌⊕◌, fits}
use Rattle.stubs.specs.Worked.{bending_by}
use Rattle.stubs.proofs.Modes.{mode1_lesser, mode2_lesser}
use Rattle.stubs.proofs.Stub.bending.Goals as goal
use Rattle.stubs.proofs.Stub.bending.Goals.{then-flexure-self, else-flexure-self}

pub overflow_mul-flexure : goal.overflow_mul-flexure
overflow_mul-flexure c = let p = c.requires in fits (p.length_most ⊗ p.stub.flexure) tt

pub overflow_mul-flexure-2 : goal.overflow_mul-flexure-2
overflow_mul-flexure-2 c = let p = c.requires in fits (p.length_most ⊗ p.stub.flexure ⊗ p.stub.reach) tt

pub overflow_mul-moment : goal.overflow_mul-moment
overflow_mul-moment c = let p = c.requires in fits (p.rows ⊗ p.stub.prying) tt

pub overflow_add-moment : goal.overflow_add-moment
overflow_add-moment c = let p = c.requires in fits (p.length_most ⊗ p.stub.flexure ⊕ p.rows ⊗ p.stub.prying) tt

pub overflow_mul-rows-2 : goal.overflow_mul-rows-2
overflow_mul-rows-2 c = let p = c.requires in fits (p.rows ⊗ p.pair) tt

pub returns : goal.returns
unfolding bending_by
returns c =
    let s = c.requires.stub in
    elim c.if-flexure-self.branch [
      | then-flexure-self w ↦
          omega (arith, ap (λ m. m.0 / m.1) w.moment-is, mode1_lesser _ _ _ s w.if-flexure-self.true, c.min.ensures)
      | else-flexure-self w ↦
          omega (arith, ap (λ m. m.0 / m.1) w.moment-is, mode2_lesser _ _ _ s w.if-flexure-self.false, c.min.ensures)
    ]
