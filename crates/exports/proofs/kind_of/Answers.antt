-- `kind_of` meets its contract: the number is 1, or it isn't. Assumes nothing.
use borrow.Author.Tests.{eq-eqb, ne_eqb}
use Rattle.exports.specs.Calls.{kind_of}
use Rattle.exports.proofs.kind_of.Goals as goal

pub returns-then-number-eq-OLD_KIND : goal.returns-then-number-eq-OLD_KIND
unfolding kind_of
returns-then-number-eq-OLD_KIND c = rw (eq-eqb _ 1 c.if-number-eq-OLD_KIND.true)

pub returns-else-number-eq-OLD_KIND : goal.returns-else-number-eq-OLD_KIND
unfolding kind_of
returns-else-number-eq-OLD_KIND c = rw (ne_eqb _ 1 c.if-number-eq-OLD_KIND.false)
