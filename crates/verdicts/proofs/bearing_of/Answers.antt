-- `bearing_of` meets its contract: the lower strength on each part, then the lesser bearing. Assumes nothing.
use native.Mathlib.Omega.{arith}
use Rattle.std.specs.Prelude.{ℕ, ◌≤◌}
use Rattle.arithmetic.specs.Range.{Within, ◌to◌}
use Rattle.arithmetic.proofs.Bounds.{at_most, loosen}
use Rattle.joint.specs.declared.Column.{Column}
use Rattle.joint.specs.declared.Plate.{Plate}
use Rattle.strength.specs.InRange.{most_thickness}
use Rattle.strength.specs.declared.BoltStrengths.{BoltStrengths}
use Rattle.verdicts.specs.Asked.{PairAsked, BearingAsked}
use Rattle.verdicts.proofs.bearing_of.Goals as goal

-- a pair's bearing on one part, by a strength that is at most the bolt's
on_part : {bolt : BoltStrengths} {column : Column} {plate : Plate} {thickness strength : ℕ} → PairAsked bolt column plate
    → Within (0 to most_thickness) thickness → strength ≤ bolt.bearing → BearingAsked bolt.diameter thickness strength
on_part p thickness lower =
    record { diameter = p.bolt.diameter; thickness = thickness; strength = at_most (omega (arith, lower, p.bolt.bearing.high)) }

pub pair_bearing-on_plate-requires : goal.pair_bearing-on_plate-requires
pair_bearing-on_plate-requires c =
    on_part c.requires (loosen (0 to most_thickness) c.requires.plate.thickness tt) (omega (arith, c.min-plate_strength.ensures))

pub pair_bearing-on_column-requires : goal.pair_bearing-on_column-requires
pair_bearing-on_column-requires c =
    on_part c.requires (loosen (0 to most_thickness) c.requires.column.flange tt) (omega (arith, c.min-column_strength.ensures))
