-- What the verdict relies on: nothing here states a rule. Assumes nothing.
use Rattle.std.specs.Prelude.{ℕ, ◌<◌, ◌^◌}
use Rattle.joint.specs.InRange.{LoadsInRange}
use Rattle.joint.specs.declared.Loads.{Loads}

pub record PanelAsked (first-sum : ℕ) (first : Loads) (second-sum : ℕ) (second : Loads) : Type 0 where
  pub first_small : first-sum < 2 ^ 32
  pub first_loads : LoadsInRange first
  pub second_small : second-sum < 2 ^ 32
  pub second_loads : LoadsInRange second
