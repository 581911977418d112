-- `run::numbers_at` meets its contract: the loop's head is `RunHead`, a number carries it on, and anything else is the run's refusal.
-- Assumes nothing.
use native.Mathlib.Omega.{arith}
use Rattle.std.proofs.lemmas.List.{set-get_or}
use Rattle.std.proofs.lemmas.Result.{err_from_is_err_and}
use Rattle.numbers.proofs.Runs.{run_none, run_more, run_refused, run_done}
use Rattle.numbers.proofs.run.numbers_at.Goals as goal

pub loop-value-init : goal.loop-value-init
loop-value-init c = run_none _ _ _

pub returns-in_err-number : goal.returns-in_err-number
returns-in_err-number c =
    let p = err_from_is_err_and c.from_residual.result c.from_residual.ensures.1 in
    rw (p.1, p.2, set-get_or) (run_refused c.loop-value.invariant c.loop-value-test.true _ c.in_err-number.ensures)

pub loop-value-preserved : goal.loop-value-preserved
loop-value-preserved c = run_more c.loop-value.invariant c.loop-value-test.true _ c.in_ok-number.ensures

pub returns : goal.returns
returns c = run_done c.loop-value.invariant (omega arith)
