-- What a list of row forces comes to: its sum, its moment Z, and how many rows have a force.
-- Assumes nothing.
use Rattle.std.specs.Prelude.{ℕ, ◌+◌, cond, List, [], ◌∷◌, eqb}
use Rattle.sharing.specs.Groups.{total}
use Rattle.sharing.specs.Sharing.{moment}
use Rattle.verdicts.specs.declared.Tally.{Tally}

unfoldable pub pulling_rows : List ℕ → ℕ
pulling_rows [] = 0
pulling_rows (force ∷ forces) = cond (eqb force 0) 0 1 + pulling_rows forces

abbrev pub tally_of : (levers forces : List ℕ) → Tally
tally_of levers forces = record { sum = total forces; moment = moment levers forces; pulling = pulling_rows forces }
