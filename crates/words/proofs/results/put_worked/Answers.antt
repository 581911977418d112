-- `results::put_worked` meets its contract: of two faces the words of the first are put first, then those of the second, and the panel's.
-- Assumes nothing.
use Rattle.std.proofs.Common.{ℕ, [], ◌∷◌, ◌++◌, length-take-le, refl, ap, ◌∙◌, rules, arith}
use Rattle.buffers.specs.Put.{at_front}
use Rattle.words.specs.Results.{result_words}
use Rattle.words.proofs.Copies.{first_run, put_after, word_after}
use Rattle.words.proofs.Flags.{panel_is}
use Rattle.words.proofs.results.put_worked.Goals as goal

pub returns-in-None-clause-words_after : goal.returns-in-None-clause-words_after
returns-in-None-clause-words_after c = rw c.in-None.is c.put_one_face.ensures.words_after

pub returns-in-Some-clause-words_after : goal.returns-in-Some-clause-words_after
returns-in-Some-clause-words_after c =
    let words = c.args.words.now in
    let result = c.args.worked.now.result in
    let size = length-take-le 17 words (omega (arith, c.requires)) in
    let first = first_run words {count = 17} refl (c.put_result.auto.words ∙ size) c.put_result.ensures.words_after in
    let second = put_after {count = 17} first refl (c.put_result-in-Some.auto.words ∙ (search rules)) c.put_result-in-Some.ensures.words_after in
    let all = word_after c.from.result second (omega (arith, c.requires)) in
    rw c.in-Some.is
    (all.put
    ∙ ap (λ (flag : ℕ). at_front ((result_words result ++ result_words c.in-Some.second.result) ++ (flag ∷ [])) words)
    (c.from.ensures ∙ panel_is c.in-Some.second.panel_passes))
