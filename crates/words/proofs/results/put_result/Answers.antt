-- `results::put_result` meets its contract: the forces are put first, and the figures follow them. Assumes nothing.
use Rattle.std.proofs.Common.{refl, rules}
use Rattle.words.proofs.Copies.{first_run, put_after, all_of}
use Rattle.words.proofs.results.put_result.Goals as goal

pub returns-clause-words_after : goal.returns-clause-words_after
returns-clause-words_after c =
    let forces = first_run c.args.words.now {count = 8} c.copy_from_slice.ensures.after (search rules) refl in
    let all = put_after {count = 9} forces c.copy_from_slice-2.ensures.after (search rules) c.figures_of.ensures in
    all_of all c.requires
