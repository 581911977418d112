-- The levers that are left answer what all of them do.
use mathlib.Core.Path.{◌≡◌}
use lib.ListN.{drop}
use Rattle.joint.specs.Fields.{lever_checks, found_by}
use Rattle.joint.proofs.check_levers.Given as goal

abbrev pub invariant-loop-row : goal.invariant-loop-row
invariant-loop-row l = found_by (lever_checks l.rows 0 l.lever-items) ≡ found_by (lever_checks l.rows l.row (drop l.row l.lever-items))
