-- What has been read so far stands at the space's front. Assumes nothing.
use Rattle.std.proofs.Common.{length, ◌-◌, ◌≤◌, take}
use Rattle.std.specs.Io.KnownBytes.{Consumes}
use Rattle.input.proofs.read_whole.Given as goal

abbrev pub invariant-loop-got : goal.invariant-loop-got
invariant-loop-got g l =
    (l.got ≤ length l.space) × Consumes (g.R.Read.remaining l.initial.input) (g.R.Read.remaining l.input) (take l.got l.space)

abbrev pub decreases-loop-got : goal.decreases-loop-got
decreases-loop-got g l = length l.initial.space - l.got
