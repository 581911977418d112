-- The bending verdict (rule 8.1), for the moment Z of any list of row forces.
-- Assumes nothing.
use Rattle.std.specs.Prelude.{ℕ, ◌*◌, ◌-◌, Bool, pos, ◌-ℤ◌, ◌*ℤ◌}
use Rattle.std.specs.Int.Signed.{le_z}
use Rattle.joint.specs.declared.Beam.{Beam}
use Rattle.joint.specs.declared.Loads.{Loads}

-- rule 8.1, in whole numbers with a sign; Db is above Tb in every joint in range
unfoldable pub carries : Loads → Beam → (z : ℕ) → Bool
carries loads beam z =
    le_z (pos (20000 * loads.moment) -ℤ loads.axial *ℤ pos (beam.depth - beam.flange)) (pos (2 * z))
