-- `joints::stored_of` meets its contract: the word's N is stored. Assumes nothing.
use Rattle.std.proofs.Common.{w32}
use Rattle.std.proofs.lemmas.Int.{of_z-to_z}
use Rattle.words.proofs.Axial.{axial_is}
use Rattle.words.proofs.joints.stored_of.Goals as goal

pub returns : goal.returns
returns c =
    rw (c.stored_axial.ensures, c.cast_signed.ensures, of_z-to_z w32 c.args.word c.ranges.word.fits, axial_is c.args.word)
