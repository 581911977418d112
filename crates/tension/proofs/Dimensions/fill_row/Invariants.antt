-- What each turn of the loop keeps.
use Rattle.std.proofs.Common.{ℕ, ◌≡◌, ◌+◌, ◌-◌, ◌<◌, get_or}
use Rattle.tension.specs.Dimensions.{limit_by}
use Rattle.tension.proofs.Dimensions.fill_row.Given as goal

abbrev pub invariant-loop-last : goal.invariant-loop-last
invariant-loop-last l =
    (k : ℕ) → k < l.last → get_or l.limits k 0 ≡ limit_by l.self l.row (k + 1) (get_or l.levers 0 0 - get_or l.levers k 0)
