-- What each turn of the loop keeps.
use Rattle.sharing.specs.Groups.{listed}
use Rattle.sharing.specs.Triangle.{limits_in}
use Rattle.allocation.specs.Steps.{triangle_of}
use Rattle.allocation.proofs.Rows.{SharedDownTo}
use Rattle.allocation.proofs.share_rows.Given as goal

abbrev pub invariant-loop-row : goal.invariant-loop-row
invariant-loop-row l =
    let limits = limits_in (triangle_of l.triangle) (listed l.count l.limits) l.count in
    SharedDownTo l.count l.limits limits l.forces l.sums l.above l.rest l.row
