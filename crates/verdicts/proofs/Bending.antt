-- The bending rule: a larger moment passes whenever a smaller one does. Assumes nothing.
use mathlib.Core.Path.{◌≡◌, refl}
use mathlib.Core.Bool.{true}
use Prim.Native.Nat.{ℕ, ◌-◌, ◌*◌, ◌≤◌}
use native.Mathlib.Omega.{arith}
use lib.IntN.{ℤ, pos, negsuc, ◌-ℤ◌, ◌*ℤ◌}
use lib.Signed.{le_z}
use borrow.Author.Tests.{le-leb, leb-true}
use Rattle.joint.specs.declared.Beam.{Beam}
use Rattle.joint.specs.declared.Loads.{Loads}
use Rattle.sharing.specs.Best.{Monotone}
use Rattle.verdicts.specs.Bending.{carries}

le_more : (x : ℤ) (small large : ℕ) → small ≤ large → le_z x (pos small) ≡ true → le_z x (pos large) ≡ true
le_more (pos n) small large h t = let low = leb-true n small t in le-leb n large (omega arith)
le_more (negsuc n) small large h t = refl

pub carries_monotone : (loads : Loads) (beam : Beam) → Monotone (carries loads beam)
unfolding carries
carries_monotone loads beam =
    let asked = pos (20000 * loads.moment) -ℤ loads.axial *ℤ pos (beam.depth - beam.flange) in
    record { larger = λ small large h. le_more asked (2 * small) (2 * large) (omega arith) }
