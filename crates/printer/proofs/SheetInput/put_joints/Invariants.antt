-- What each turn of the loop keeps, and why it ends: what is left gets shorter.
use lib.ListN.{length}
use Rattle.printer.proofs.Prints.{WalkHead}
use Rattle.printer.proofs.SheetInput.put_joints.Given as goal

abbrev pub invariant-loop-left : goal.invariant-loop-left
invariant-loop-left g l = WalkHead g.S.Sink.has_room g.S.Sink.takes l.initial.sink l.fn.self.bytes.now l.sink l.number l.left

abbrev pub decreases-loop-left : goal.decreases-loop-left
decreases-loop-left g l = length l.left
