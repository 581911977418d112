-- `JointWords::fields` meets its contract. Assumes nothing.
use Rattle.std.proofs.Common.{◌≡◌, ◌+◌, ◌-◌, arith}
use Rattle.words.specs.Words.{fields_of_words}
use Rattle.words.proofs.Copies.{part_is}
use Rattle.words.proofs.joints.JointWords.fields.Goals as goal

pub returns : goal.returns
unfolding fields_of_words
returns g c =
    let count : c.args.from + g.row.COUNT - c.args.from ≡ g.row.COUNT = omega arith in
    rw (c.stored_of.ensures, part_is _ _ _ _ c.try_into.ensures.1 c.unwrap-fields.ensures, count)
