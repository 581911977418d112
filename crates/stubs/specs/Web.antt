-- Tension in a web (rules 4.9 and 4.10).
-- Assumes nothing.
use Rattle.std.specs.Prelude.{ℕ, ◌+◌, ◌*◌, ◌/◌}

-- rule 4.9; with the beam's t and y, rule 4.10
unfoldable pub web_tension : (g s t y : ℕ) → ℕ
web_tension g s t y = (173 * g + 100 * s) * t * y / 10000
