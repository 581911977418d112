-- `resistances_of` meets its contract: the length is in the range that it is asked to be in. Assumes nothing.
use Rattle.compression.specs.InRange.{ColumnWebParts}
use Rattle.compression.proofs.Buckling.{buckling_small}
use Rattle.compression.proofs.Ranges.{web_parts}
use Rattle.compression.proofs.resistances_of.Goals as goal
use Rattle.compression.proofs.resistances_of.Goals.{After-bearing_length-b}

-- what web bearing and web buckling ask, of the length that both are handed
web_at : (c : After-bearing_length-b) → ColumnWebParts c.bearing_length-b.result c.args.steel.column c.args.column
web_at c = let a = c.args in rw c.bearing_length-b.ensures (web_parts a.steel a.column a.beam a.plate a.welds c.requires)

pub web_buckling-unreduced-requires : goal.web_buckling-unreduced-requires
web_buckling-unreduced-requires c = web_at (goal.at.web_buckling-unreduced-requires c).After-bearing_length-b

pub web_bearing-requires : goal.web_bearing-requires
web_bearing-requires c = web_at (goal.at.web_bearing-requires c).After-bearing_length-b

pub reduced_near_end-requires : goal.reduced_near_end-requires
reduced_near_end-requires c = (rw c.web_buckling-unreduced.ensures (buckling_small _ _ _), c.requires.column)
