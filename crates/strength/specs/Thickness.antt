-- Rule 6.5: whether column flange and plate are both too thick for the bolts.
-- Assumes nothing.
use Rattle.std.specs.Prelude.{ℕ, ◌*◌, Bool, ◌&&◌, ltb}
use Rattle.joint.specs.declared.Column.{Column}
use Rattle.joint.specs.declared.Plate.{Plate}
use Rattle.strength.specs.declared.SteelStrengths.{SteelStrengths}
use Rattle.strength.specs.declared.BoltStrengths.{BoltStrengths}

unfoldable pub thickness_limit : (diameter ultimate : ℕ) → ℕ
thickness_limit diameter ultimate = 10000 * diameter * diameter * ultimate

unfoldable pub too_thick : (thickness strength limit : ℕ) → Bool
too_thick thickness strength limit = ltb limit (361 * thickness * thickness * strength)

unfoldable pub both_too_thick : Column → Plate → SteelStrengths → BoltStrengths → Bool
both_too_thick column plate steel bolt =
    let limit = thickness_limit bolt.diameter bolt.ultimate in
    too_thick column.flange steel.column limit && too_thick plate.thickness steel.plate limit
