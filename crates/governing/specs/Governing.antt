-- Rules 5.6 and 5.10: the compression check that governs, with its force. Assumes nothing.
use Rattle.std.specs.Prelude.{ℕ, Bool, cond, List, [], ◌∷◌, leb}
use Rattle.compression.specs.declared.Resistances.{Resistances}
use Rattle.governing.specs.declared.CompressionCheck.{CompressionCheck}
use Rattle.governing.specs.declared.CompressionCheck.TheVariants.{Flange, Bearing, Buckling, Panel}

abbrev pub force_of : CompressionCheck → ℕ
force_of (Flange force) = force
force_of (Bearing force) = force
force_of (Buckling force) = force
force_of (Panel force) = force

-- of two checks the one with the smaller force, the first where they are equal
unfoldable pub lesser : CompressionCheck → CompressionCheck → CompressionCheck
lesser first second = cond (leb (force_of first) (force_of second)) first second

abbrev pub first_least : CompressionCheck → List CompressionCheck → CompressionCheck
first_least found [] = found
first_least found (check ∷ checks) = first_least (lesser found check) checks

-- rules 5.6 and 5.10: the first least of the four, in this order; of the first three where panel shear doesn't count
unfoldable pub governing_check : (panel_counts : Bool) → Resistances → CompressionCheck
governing_check panel_counts resistances =
    first_least (Flange resistances.flange)
    (Bearing resistances.bearing ∷ Buckling resistances.buckling ∷ cond panel_counts (Panel resistances.panel ∷ []) [])
