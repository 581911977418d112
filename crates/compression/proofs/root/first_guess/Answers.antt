-- `compression::root::first_guess` meets its contract: the power and the quotient are small enough to be added, and a step from the power
-- is a guess.
-- Assumes nothing.
use native.Mathlib.Omega.{arith}
use lib.Count.{leading_le}
use Rattle.compression.proofs.root.Halves.{shifted, power_le, upper_lt, stepped}
use Rattle.compression.proofs.root.first_guess.Goals as goal

pub overflow_sub-half : goal.overflow_sub-half
overflow_sub-half c = leading_le 64 c.args.x

pub overflow_add-result : goal.overflow_add-result
overflow_add-result c = let x = c.args.x in omega (arith, power_le x, upper_lt x c.ranges.x.fits)

pub returns : goal.returns
returns c = let x = c.args.x in rw (shifted x) (stepped x c.ranges.x.fits)
