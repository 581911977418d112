-- `joints::head_of` meets its contract: the fields are what their function ensures, and N's word takes the place of field 27. Assumes nothing.
use Rattle.std.proofs.Common.{◌≡◌, w32, to_z, of_z, rules}
use Rattle.words.specs.Words.{head_of}
use Rattle.words.proofs.Axial.{word_is}
use Rattle.words.proofs.joints.head_of.Goals as goal

pub returns : goal.returns
unfolding head_of
returns c =
    let axial = c.args.face.loads.axial in
    let back : to_z w32 (of_z w32 axial) ≡ axial = search rules in
    rw (c.fields_of-head.ensures, c.cast_unsigned.ensures, back, ← word_is axial)
