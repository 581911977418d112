-- `jinqewan_work` meets its contract: a slice is too short, the joint is refused, or the words of what it comes to were put. Assumes
-- nothing.
use Rattle.std.proofs.Common.{inl, inr, length, ap, ◌∙◌}
use Rattle.outcome.specs.Outcome.{Outcome}
use Rattle.words.specs.Tables.{table_of_words}
use Rattle.words.specs.Words.{joint_word_count}
use Rattle.words.specs.Results.{outcome_word_count}
use Rattle.exports.specs.Answers.{answer_number}
use Rattle.exports.proofs.Answers.{three_short, enough_all, too_short, taken, refusal_told}
use Rattle.exports.proofs.Refusals.{face_some}
use Rattle.exports.proofs.Calls.{refusal_small}
use Rattle.exports.proofs.jinqewan_work.Goals as goal

pub returns-in_default-clause-equals : goal.returns-in_default-clause-equals
returns-in_default-clause-equals c =
    rw (← c.in_default.ensures)
    (too_short _ _ _ _ _ (three_short (inr (inl (c.in_default.field-0-0.enough, c.in_default.ensures')))))

pub returns-in_default-2-clause-equals : goal.returns-in_default-2-clause-equals
returns-in_default-2-clause-equals c =
    too_short _ _ _ _ _
    (three_short {second = length c.args.fields.now} {third = length c.args.res.now} {other = joint_word_count} {another = outcome_word_count}
    (inl c.in_default.ensures))

pub returns-then-res-lt-OUTCOME_WORDS-clause-equals : goal.returns-then-res-lt-OUTCOME_WORDS-clause-equals
returns-then-res-lt-OUTCOME_WORDS-clause-equals c =
    let lent = c.in-Some-Some in
    rw (← lent.ensures, ← lent.ensures')
    (too_short _ _ _ _ _ (three_short (inr (inr (lent.table.enough, lent.fields.enough, c.if-res-lt-OUTCOME_WORDS.true)))))

pub answer_of-requires : goal.answer_of-requires
answer_of-requires c =
    let lent = c.in-Some-Some in
    refusal_small (table_of_words lent.table.words.now) lent.fields.words.now lent.fields.enough c.in-Err.ensures.equals.0

pub returns-in-Ok-clause-equals : goal.returns-in-Ok-clause-equals
returns-in-Ok-clause-equals c =
    let lent = c.in-Some-Some in
    rw (← lent.ensures, ← lent.ensures')
    (taken _ _ _ _ _ (enough_all lent.table.enough lent.fields.enough c.if-res-lt-OUTCOME_WORDS.false) c.in-Ok.ensures.equals.0
    c.in-Ok.ensures.equals.1)

pub returns-in-Err-clause-equals : goal.returns-in-Err-clause-equals
returns-in-Err-clause-equals c =
    let lent = c.in-Some-Some in
    let is = c.in-Err.ensures.equals.0 in
    rw (c.in-Err.ensures.equals.1, ← lent.ensures, ← lent.ensures')
    (refusal_told _ _ _ _ _ (enough_all lent.table.enough lent.fields.enough c.if-res-lt-OUTCOME_WORDS.false)
    (λ none. face_some c.in-Err.refused.refusal (ap (λ (o : Outcome). o.refusal.number) is ∙ none))
    (c.answer_of.ensures ∙ ap (λ (o : Outcome). answer_number o.refusal.number o.refusal.field o.refusal.face) is))
