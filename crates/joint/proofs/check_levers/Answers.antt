-- `check_levers` meets its contract: a lever that fails answers for those below it too. Assumes nothing.
use mathlib.Core.Path.{sym, ◌∙◌}
use native.Mathlib.Omega.{arith}
use Rattle.std.proofs.Common.{rules}
use Rattle.joint.proofs.Fields.{next_lever, no_lever}
use Rattle.joint.proofs.check_levers.Goals as goal

pub returns-in_err-check_lever : goal.returns-in_err-check_lever
returns-in_err-check_lever c = let n = c.loop-row.invariant ∙ next_lever c.args.rows c.loop-row.row c.args.levers (omega arith) in search rules

pub loop-row-preserved : goal.loop-row-preserved
loop-row-preserved c = let n = c.loop-row.invariant ∙ next_lever c.args.rows c.loop-row.row c.args.levers (omega arith) in search rules

pub returns : goal.returns
returns c = no_lever c.args.rows c.loop-row.row c.args.levers (omega arith) ∙ sym c.loop-row.invariant
