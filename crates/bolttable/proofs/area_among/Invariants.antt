-- What each turn of the loop keeps.
use mathlib.Core.Path.{◌≡◌}
use lib.ListN.{length, drop}
use Rattle.std.specs.Prelude.{None}
use Rattle.bolttable.specs.Steps.{below_least, all_sizes, area_passed}
use Rattle.bolttable.proofs.area_among.Given as goal

abbrev pub invariant-loop-next : goal.invariant-loop-next
invariant-loop-next l =
    let sizes = all_sizes l.diameters l.areas in
    area_passed l.diameter l.last l.found (drop (length l.yielded) sizes) ≡ area_passed l.diameter below_least None sizes
