-- The tension cap and refusal 15 (rules 5.7 and 11.7). The cap has a sign: where N is above the
-- governing force it is below 0, and 15 answers. Assumes nothing.
use Rattle.std.specs.Prelude.{ℕ, Bool, ℤ, pos, negsuc, ◌-ℤ◌}
use Rattle.std.specs.Int.Signed.{lt_z}
use Rattle.joint.specs.declared.Loads.{Loads}

-- rule 5.7: the governing force less N
unfoldable pub tension_cap : Loads → (force : ℕ) → ℤ
tension_cap loads force = pos force -ℤ loads.axial

-- rule 11.7, refusal 15: N is above the governing force
unfoldable pub over_compressed : Loads → (force : ℕ) → Bool
over_compressed loads force = lt_z (pos force) loads.axial

-- The newtons of a cap; one below 0 leaves none.
abbrev pub newtons_of : ℤ → ℕ
newtons_of (pos n) = n
newtons_of (negsuc n) = 0
