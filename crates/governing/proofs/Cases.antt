-- The two cases of the cap: which way refusal 15 goes, that a cap which isn't below 0 is its newtons, and how large those are. Assumes
-- nothing.
use mathlib.Core.Path.{◌≡◌, refl, ap, ◌∙◌}
use mathlib.Core.Bool.{Bool, true, false, cond}
use Prim.Native.Nat.{ℕ, zero, suc, ◌+◌, ◌-◌, ◌^◌, ◌≤◌}
use Rattle.std.specs.Prelude.{Some, None, Result, Ok, Err, OkIff}
use Rattle.std.specs.Int.{FitsUnsignedBits}
use Rattle.std.specs.Result.{result_ok}
use Rattle.std.proofs.lemmas.Int.{ints}
use native.Mathlib.Omega.{arith}
use lib.Dec.{ltb}
use lib.IntN.{ℤ, pos, negsuc, nat_abs, ◌-ℤ◌}
use lib.Signed.{lt_z, ◌<ℤ◌, ◌≤ℤ◌}
use Rattle.joint.specs.declared.Loads.{Loads}
use Rattle.governing.specs.Cap.{tension_cap, over_compressed, newtons_of}
use Rattle.governing.specs.Answers.{cap_case}

-- the answer by the sign of the governing force less N
below_zero : (loads : Loads) (force : ℕ) → (pos force -ℤ loads.axial) <ℤ pos 0 → None ≡ cap_case loads force
unfolding cap_case over_compressed
below_zero loads force h =
    let over : lt_z (pos force) loads.axial ≡ true = grind (arith, ints) in
    rw over

not_below_zero : (loads : Loads) (force : ℕ) → pos 0 ≤ℤ (pos force -ℤ loads.axial)
    → Some (nat_abs (pos force -ℤ loads.axial)) ≡ cap_case loads force
unfolding cap_case over_compressed tension_cap
not_below_zero loads force h =
    let within : lt_z (pos force) loads.axial ≡ false = grind (arith, ints) in
    rw within (ap Some (size (pos force -ℤ loads.axial) h))
  where
    size : (cap : ℤ) → pos 0 ≤ℤ cap → nat_abs cap ≡ newtons_of cap
    size (pos n) k = refl
    size (negsuc n) k = absurd (omega (arith, ints))

-- so the governing force less N, where it is a number of 64 bits with no sign, is the answer
pub cap_found : {E : Type 0} (loads : Loads) (force : ℕ) (found : Result ℕ E) → (pos force -ℤ loads.axial) <ℤ pos (2 ^ 64)
    → OkIff found (FitsUnsignedBits 64 (pos force -ℤ loads.axial)) (nat_abs (pos force -ℤ loads.axial))
    → result_ok found ≡ cap_case loads force
cap_found loads force (Err e) small unfit = below_zero loads force (negative (pos force -ℤ loads.axial) small unfit)
  where
    negative : (cap : ℤ) → cap <ℤ pos (2 ^ 64) → ¬ FitsUnsignedBits 64 cap → cap <ℤ pos 0
    negative (pos n) small unfit = absurd (unfit (omega (arith, ints, small)))
    negative (negsuc n) small unfit = omega (arith, ints)
cap_found loads force (Ok cap) small fit = ap Some fit.1 ∙ not_below_zero loads force (positive (pos force -ℤ loads.axial) fit.0)
  where
    positive : (cap : ℤ) → FitsUnsignedBits 64 cap → pos 0 ≤ℤ cap
    positive (pos n) fits = omega (arith, ints)
    positive (negsuc n) fits = absurd fits

pub exceeded : (loads : Loads) (force : ℕ) → None ≡ cap_case loads force → over_compressed loads force ≡ true
unfolding cap_case
exceeded loads force e = by_test (over_compressed loads force) e
  where
    by_test : (over : Bool) → None ≡ cond over None (Some (newtons_of (tension_cap loads force))) → over ≡ true
    by_test true h = refl
    by_test false h = let never : ◌≡◌ {A = ℕ} 0 1 = cc in absurd (omega arith)

pub within_cap : (loads : Loads) (force cap : ℕ) → Some cap ≡ cap_case loads force
    → (over_compressed loads force ≡ false) × (cap ≡ newtons_of (tension_cap loads force))
unfolding cap_case
within_cap loads force cap e = by_test (over_compressed loads force) e
  where
    by_test : (over : Bool) → Some cap ≡ cond over None (Some (newtons_of (tension_cap loads force)))
        → (over ≡ false) × (cap ≡ newtons_of (tension_cap loads force))
    by_test true h = let never : ◌≡◌ {A = ℕ} 0 1 = cc in absurd (omega arith)
    by_test false h = (refl, cc)

-- what 15 leaves: a cap that is its newtons
pub cap_newtons : (loads : Loads) (force : ℕ) → over_compressed loads force ≡ false
    → tension_cap loads force ≡ pos (newtons_of (tension_cap loads force))
unfolding over_compressed tension_cap
cap_newtons loads force under = by_sign loads.axial under
  where
    by_sign : (axial : ℤ) → lt_z (pos force) axial ≡ false → pos force -ℤ axial ≡ pos (newtons_of (pos force -ℤ axial))
    by_sign (pos zero) h = refl
    by_sign (pos (suc n)) h = rw h
    by_sign (negsuc n) h = refl

-- no cap is above the governing force with all of N on top
pub cap_le : (loads : Loads) (force : ℕ) → newtons_of (tension_cap loads force) ≤ force + nat_abs loads.axial
unfolding tension_cap
cap_le loads force = by_sign loads.axial
  where
    by_sign : (axial : ℤ) → newtons_of (pos force -ℤ axial) ≤ force + nat_abs axial
    by_sign (pos zero) = omega arith
    by_sign (pos (suc n)) = by_test (ltb force (suc n))
      where
        by_test : (less : Bool) → newtons_of (cond less (negsuc (suc n - suc force)) (pos (force - suc n))) ≤ force + suc n
        by_test true = omega arith
        by_test false = omega arith
    by_sign (negsuc n) = omega arith
