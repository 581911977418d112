-- `print_over_long` meets its contract: one line of four bytes, put whole or not at all. Assumes nothing.
use native.Mathlib.Omega.{arith}
use Rattle.printer.proofs.Prints.{over_long_short, over_long_put}
use Rattle.printer.proofs.print_over_long.Goals as goal

pub returns-then-output-lt4 : goal.returns-then-output-lt4
returns-then-output-lt4 c = over_long_short _ (omega arith)

pub returns : goal.returns
returns c = rw c.copy_from_slice.ensures.after (over_long_put _ (omega arith))
