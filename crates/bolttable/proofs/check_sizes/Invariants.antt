-- What each turn of the loop keeps.
use lib.ListN.{length, drop}
use Rattle.bolttable.specs.Steps.{all_sizes}
use Rattle.bolttable.proofs.Checks.{Passed}
use Rattle.bolttable.proofs.check_sizes.Given as goal

abbrev pub invariant-loop-diameter : goal.invariant-loop-diameter
invariant-loop-diameter l =
    let sizes = all_sizes l.diameters l.areas in
    Passed sizes (drop (length l.yielded) sizes) l.last l.rise l.fit
