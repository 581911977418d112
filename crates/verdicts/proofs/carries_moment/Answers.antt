-- `carries_moment` meets its contract: in whole numbers of 64 bits with a sign both sides are themselves. Assumes nothing.
use mathlib.Core.Path.{ap₂}
use Prim.Native.Nat.{◌≤◌, ◌*◌, ◌-◌}
use native.Mathlib.Nat.{mul-le-mul}
use Rattle.std.proofs.Common.{◌≡◌, arith, w64, ℤ, pos, ◌-ℤ◌, ◌*ℤ◌, to_z, of_z}
use Rattle.std.specs.Prelude.{unsigned_abs}
use Rattle.std.proofs.lemmas.Int.{ints, unsigned_abs-mul}
use lib.Signed.{le_z}
use Rattle.joint.specs.Ranges.{depths, loads}
use Rattle.verdicts.specs.Bending.{carries}
use Rattle.verdicts.proofs.carries_moment.Goals as goal

pub returns : goal.returns
unfolding carries
returns c =
    let a = c.args in
    let r = c.requires in
    let n = a.loads.axial in
    let arm = a.beam.depth - a.beam.flange in
    let size : unsigned_abs (n *ℤ pos arm) ≤ loads.high * depths.high
    = rw unsigned_abs-mul (mul-le-mul {n₁ = unsigned_abs n} {m₁ = arm} {n₂ = loads.high} {m₂ = depths.high} r.loads.axial.high (omega (arith, r.beam.depth.high))) in
    let load : to_z w64 (of_z w64 c.from.result) ≡ pos a.loads.moment = rw c.from.ensures (omega (arith, ints, r.loads.moment.high)) in
    let axial : to_z w64 (of_z w64 c.from-2.result) ≡ n = rw c.from-2.ensures (omega (arith, ints, r.loads.axial)) in
    let long : to_z w64 (of_z w64 c.from-arm.result) ≡ pos arm = rw c.from-arm.ensures (omega (arith, ints, r.beam.depth.high)) in
    let less : (p : ℤ) → unsigned_abs p ≤ loads.high * depths.high → to_z w64 (of_z w64 (to_z w64 (of_z w64 (pos 20000 *ℤ pos a.loads.moment)) -ℤ to_z w64 (of_z w64 p))) ≡ pos (20000 * a.loads.moment) -ℤ p
    = λ p small. omega (arith, ints, small, r.loads.moment.high) in
    let twice : to_z w64 (of_z w64 (pos 2 *ℤ to_z w64 (of_z w64 c.cast_signed.result))) ≡ pos (2 * a.moment)
    = rw c.cast_signed.ensures (omega (arith, ints, r.moment_most)) in
    ap₂ le_z (rw (load, axial, long) (less (n *ℤ pos arm) size)) twice
