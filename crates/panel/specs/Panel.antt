-- Rule 8.6: the web panel of a column with a beam on both faces, in whole numbers with a sign. Assumes nothing.
use Rattle.std.specs.Prelude.{ℕ, Bool, leb, ℤ, pos, nat_abs, ◌+ℤ◌, ◌-ℤ◌}
use Rattle.joint.specs.declared.Loads.{Loads}

-- what a face brings to the panel: the sum of its row forces plus N
unfoldable pub governing_total : (sum : ℕ) → Loads → ℤ
governing_total sum loads = pos sum +ℤ loads.axial

-- the panel passes when the totals of the two faces differ by no more than panel shear, whichever is the larger
unfoldable pub panel_passes : (shear : ℕ) (first second : ℤ) → Bool
panel_passes shear first second = leb (nat_abs (first -ℤ second)) shear
