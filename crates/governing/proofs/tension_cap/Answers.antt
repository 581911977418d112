-- `tension_cap` meets its contract: in whole numbers of 64 bits with a sign the governing force less N is itself. Assumes nothing.
use Rattle.std.proofs.Common.{◌≡◌, ◌∙◌, arith, w64, pos, ◌-ℤ◌, to_z, of_z}
use Rattle.std.proofs.lemmas.Int.{ints}
use Rattle.governing.proofs.Cases.{cap_found}
use Rattle.governing.proofs.tension_cap.Goals as goal

pub returns : goal.returns
returns c =
    let a = c.args in
    let same : to_z w64 (of_z w64 (to_z w64 (of_z w64 c.cast_signed.result) -ℤ to_z w64 (of_z w64 c.from.result))) ≡ pos a.force -ℤ a.loads.axial =
    omega (arith, ints, c.requires.1.axial) in
    c.ok.ensures.value
    ∙ cap_found a.loads a.force _ (omega (arith, ints, c.requires.1.axial)) (rw same at c.try_from.ensures)
