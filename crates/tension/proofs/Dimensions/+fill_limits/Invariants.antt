-- Each call has one row less below it.
use Rattle.std.proofs.Common.{length, ◌-◌}
use Rattle.tension.proofs.Dimensions.+fill_limits.Given as goal

abbrev pub decreases-fill_limits : goal.decreases-fill_limits
decreases-fill_limits l = length l.levers.now - l.row
