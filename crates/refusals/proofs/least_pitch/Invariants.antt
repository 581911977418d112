-- The least pitch so far and the levers that are left tell of a distance what all of them do.
use mathlib.Core.Path.{◌≡◌}
use mathlib.Core.Bool.{◌&&◌}
use Prim.Native.Nat.{ℕ}
use lib.Dec.{leb}
use lib.ListN.{length}
use Rattle.arithmetic.specs.Range.{Within, ◌to◌}
use Rattle.joint.specs.Ranges.{most_lever}
use Rattle.refusals.specs.Refusals.{fall_by}
use Rattle.refusals.proofs.Rows.{falls_on}
use Rattle.refusals.proofs.least_pitch.Given as goal

abbrev pub invariant-loop-pair : goal.invariant-loop-pair
invariant-loop-pair l =
    (l.pair-iterator.size ≡ 2)
    × ((distance : ℕ) → Within (1 to most_lever) distance
    → fall_by distance (length l.levers) l.levers ≡ (leb distance l.pitch && falls_on distance l.pair-iterator.rest.now))
