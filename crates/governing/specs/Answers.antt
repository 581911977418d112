-- What the code answers for the cap: its newtons, or `None` for refusal 15. Assumes nothing.
use Rattle.std.specs.Prelude.{ℕ, cond, Option, Some, None}
use Rattle.joint.specs.declared.Loads.{Loads}
use Rattle.governing.specs.Cap.{tension_cap, over_compressed, newtons_of}

unfoldable pub cap_case : Loads → (force : ℕ) → Option ℕ
unfolding tension_cap
cap_case loads force = cond (over_compressed loads force) None (Some (newtons_of (tension_cap loads force)))
