-- `results::put_one_face` meets its contract: the words of the face are put first, then zeros. Assumes nothing.
use Rattle.std.proofs.Common.{ℕ, ◌≡◌, List, [], ◌∷◌, ◌++◌, length, take, drop, replicate, append_assoc, length-take-le, refl, sym, ap, ◌∙◌, rules, arith}
use Rattle.buffers.specs.Put.{at_front}
use Rattle.outcome.specs.Outcome.{no_result}
use Rattle.words.specs.Results.{figure_words, result_words}
use Rattle.words.proofs.Copies.{first_run, put_after}
use Rattle.words.proofs.results.put_one_face.Goals as goal

pub returns-clause-words_after : goal.returns-clause-words_after
unfolding figure_words
returns-clause-words_after c =
    let words = c.args.words.now in
    let size = length-take-le 17 words (omega (arith, c.requires)) in
    let first = first_run words {count = 17} refl (c.put_result.auto.words ∙ size) c.put_result.ensures.words_after in
    let room : length (take 18 (drop 17 (c.put_result.new.words ++ drop 17 words))) ≡ 18 = search rules in
    let filled = c.fill.ensures.after (λ y is. is) ∙ ap (λ (n : ℕ). replicate n 0) room in
    let all = put_after {count = 18} first filled refl refl in
    all.put ∙ ap (λ (put : List ℕ). at_front put words) (sym (append_assoc (result_words c.args.of_face.now) (result_words no_result) (0 ∷ [])))
