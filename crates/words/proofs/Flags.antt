-- A verdict as a number is its flag, and the panel's too. Assumes nothing.
use Rattle.std.proofs.Common.{Bool, true, false, cond, ◌≡◌, refl}
use mir.Val.{bool_byte}
use Rattle.outcome.specs.Outcome.{Passes, Fails}
use Rattle.words.specs.Results.{flag, panel_flag}

pub flag_is : (passes : Bool) → bool_byte passes ≡ flag passes
flag_is true = refl
flag_is false = refl

pub panel_is : (passes : Bool) → bool_byte passes ≡ panel_flag (cond passes Passes Fails)
panel_is true = refl
panel_is false = refl
