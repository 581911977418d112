-- `row_forces` meets its contract: with no rows nothing is shared. Assumes nothing.
use mathlib.Core.Path.{sym, ap}
use Rattle.joint.specs.Places.{eight_places}
use Rattle.connection.proofs.Forces.{no_forces}
use Rattle.connection.proofs.FaceAtWork.row_forces.Goals as goal

pub returns-then-self-eq0-clause-value : goal.returns-then-self-eq0-clause-value
unfolding eight_places
returns-then-self-eq0-clause-value c = ap eight_places (sym (no_forces _ _ c.if-self-eq0.true))
