-- Which of modes 1 and 2 is the lesser: of two fractions the one with the lesser cross product, and rounded down it is at most the other.
-- Assumes nothing.
use mathlib.Core.Path.{◌≡◌, sym, ap, ◌∙◌}
use Prim.Native.Nat.{ℕ, ◌+◌, ◌*◌, ◌/◌, ◌≤◌, ◌<◌}
use native.Mathlib.Nat.{mul_assoc, mul_left_comm, mul-add, add-mul}
use native.Mathlib.Omega.{arith}
use Rattle.arithmetic.proofs.Bounds.{lesser_quotient}
use Rattle.stubs.specs.InRange.{StubWithin}
use Rattle.stubs.specs.declared.Stub.{Stub}

module _ (stub : Stub) (k L : ℕ) (s : StubWithin stub) where
  -- both cross products have L×t²y×100m; what is left of them is 100 times what the test compares
  mode1_crossed : L * stub.flexure * stub.breaking ≡ L * stub.flexure * stub.yielding + 100 * (L * stub.flexure * stub.reach)
  mode1_crossed =
      ap (λ b. L * stub.flexure * b) s.breaking_is ∙ mul-add (L * stub.flexure) stub.yielding (100 * stub.reach)
      ∙ ap (λ x. L * stub.flexure * stub.yielding + x) (mul_left_comm (L * stub.flexure) 100 stub.reach)

  mode2_crossed : (L * stub.flexure + k * stub.prying) * stub.yielding ≡ L * stub.flexure * stub.yielding + 100 * (k * stub.prying_moment)
  mode2_crossed =
      add-mul (L * stub.flexure) (k * stub.prying) stub.yielding
      ∙ ap (λ x. L * stub.flexure * stub.yielding + x)
      (mul_assoc k stub.prying stub.yielding ∙ ap (λ x. k * x) (sym s.prying_moment_is) ∙ mul_left_comm k 100 stub.prying_moment)

  pub mode1_lesser : L * stub.flexure * stub.reach ≤ k * stub.prying_moment
      → L * stub.flexure / stub.yielding ≤ (L * stub.flexure + k * stub.prying) / stub.breaking
  mode1_lesser h =
      lesser_quotient _ _ _ _ (omega (arith, s.yielding.low)) (omega (arith, s.breaking.low)) (omega (arith, mode1_crossed, mode2_crossed, h))

  pub mode2_lesser : k * stub.prying_moment < L * stub.flexure * stub.reach
      → (L * stub.flexure + k * stub.prying) / stub.breaking ≤ L * stub.flexure / stub.yielding
  mode2_lesser h =
      lesser_quotient _ _ _ _ (omega (arith, s.breaking.low)) (omega (arith, s.yielding.low)) (omega (arith, mode1_crossed, mode2_crossed, h))
