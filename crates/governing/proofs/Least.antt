-- The governing force is the least of those that count, so it is at most web bearing. Assumes nothing.
use mathlib.Core.Path.{◌≡◌, refl}
use mathlib.Core.Bool.{Bool, true, false, cond}
use Prim.Native.Nat.{◌≤◌, min}
use native.Mathlib.Omega.{arith}
use lib.Dec.{leb}
use borrow.Author.Tests.{leb-true, leb-false}
use Rattle.compression.specs.declared.Resistances.{Resistances}
use Rattle.governing.specs.Governing.{force_of, lesser, governing_check}
use Rattle.governing.specs.declared.CompressionCheck.{CompressionCheck}

force_lesser : (first second : CompressionCheck) → force_of (lesser first second) ≡ min (force_of first) (force_of second)
unfolding lesser
force_lesser first second = either (leb (force_of first) (force_of second)) refl
  where
    either : (test : Bool) → leb (force_of first) (force_of second) ≡ test
        → force_of (cond test first second) ≡ min (force_of first) (force_of second)
    either true e = omega (arith, leb-true (force_of first) (force_of second) e)
    either false e = omega (arith, leb-false (force_of first) (force_of second) e)

pub governing_le_bearing : (panel_counts : Bool) (resistances : Resistances)
    → force_of (governing_check panel_counts resistances) ≤ resistances.bearing
unfolding governing_check
governing_le_bearing true resistances = simp force_lesser (omega arith)
governing_le_bearing false resistances = simp force_lesser (omega arith)
