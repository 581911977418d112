-- `read_others` meets its contract: the other fields are read, and then as many levers as there are rows. Assumes nothing.
use mathlib.Core.Path.{◌≡◌, ◌∙◌}
use lib.ListN.{length, take}
use lib.Seq.{length-take-le}
use Rattle.jointfile.proofs.Answers.{others_taken}
use Rattle.jointfile.proofs.read_others.Goals as goal

pub returns : goal.returns
returns c =
    let lent : length (take c.args.rows c.args.levers.now) ≡ c.args.rows = length-take-le _ _ (rw c.requires.1 c.requires.0) in
    let same = c.numbers_at-2.auto.values ∙ lent in
    rw c.requires.1 (others_taken _ c.in_ok-after.ensures _ _ _ c.numbers_at-2.ensures lent same)
