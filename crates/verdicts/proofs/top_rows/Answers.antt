-- `top_rows` meets its contract: the first rows of a list, one by one. Assumes nothing.
use native.Mathlib.Omega.{arith}
use borrow.Author.Tests.{eq-eqb, ne_eqb}
use Rattle.verdicts.specs.Welds.{top_rows}
use Rattle.verdicts.proofs.Tallying.{top_two, top_three}
use Rattle.verdicts.proofs.top_rows.Goals as goal

pub overflow_add-two : goal.overflow_add-two
overflow_add-two c = omega (arith, c.requires 0, c.requires 1)

pub overflow_add-result : goal.overflow_add-result
overflow_add-result c = omega (arith, c.requires 0, c.requires 1, c.requires 2)

pub returns-then-extended-eq0 : goal.returns-then-extended-eq0
unfolding top_rows
returns-then-extended-eq0 c = simp (eq-eqb _ _ c.if-extended-eq0.true) (top_two c.args.forces)

pub returns-else-extended-eq0 : goal.returns-else-extended-eq0
unfolding top_rows
returns-else-extended-eq0 c = simp (ne_eqb _ _ c.if-extended-eq0.false) (top_three c.args.forces)
