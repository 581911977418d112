-- `number::put_number` meets its contract: the loop's head is `DigitsHead`. Assumes nothing.
use Rattle.std.proofs.Common.{refl, arith, ℕ}
use Rattle.std.proofs.lemmas.List.{length-take, length-drop}
use Rattle.items.proofs.Digits.{digits_none, digits_put, digits_more_put}
use Rattle.items.proofs.number.put_number.Goals as goal

pub loop-at-init : goal.loop-at-init
loop-at-init c = digits_none _ _ (omega (arith, length-take {A = ℕ}, length-drop {A = ℕ}, c.digit_count.ensures, c.requires))

pub loop-at-preserved : goal.loop-at-preserved
loop-at-preserved c = digits_more_put c.loop-at.invariant c.loop-at-test.true

pub returns : goal.returns
returns c = record { same = refl; put = digits_put c.args.writer.now c.loop-at.invariant c.loop-at-test.false c.digit_count.ensures c.requires }
