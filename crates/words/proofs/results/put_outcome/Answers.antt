-- `results::put_outcome` meets its contract: the words of a joint that is refused are zeros. Assumes nothing.
use Rattle.std.proofs.Common.{length-take-le, refl, arith}
use Rattle.words.specs.Results.{figure_words}
use Rattle.words.proofs.results.put_outcome.Goals as goal

pub returns-in-Err-clause-words_after : goal.returns-in-Err-clause-words_after
unfolding figure_words
returns-in-Err-clause-words_after c =
    let words = c.args.words.now in
    let size = length-take-le 35 words (omega (arith, c.requires)) in
    rw (c.in-Err.is, c.fill.ensures.after (λ y is. is), size) refl
