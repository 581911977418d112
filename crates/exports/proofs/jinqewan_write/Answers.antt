-- `jinqewan_write` meets its contract: the slice is too short for a joint, or each case of `write`'s answer says what the definition does.
-- Assumes nothing.
use Rattle.std.proofs.Common.{ℕ, List, sym, ap, ◌∙◌}
use borrow.Author.Tests.{lt-leb, le-leb}
use Rattle.joint.specs.declared.Joint.{Joint}
use Rattle.jointfile.specs.Write.{Writing, writing}
use Rattle.words.specs.Words.{joint_word_count}
use Rattle.exports.specs.Answers.{answers}
use Rattle.exports.specs.Calls.{BufferFront, file_put}
use Rattle.exports.proofs.Refusals.{write_some}
use Rattle.exports.proofs.Answers.{too_short, taken, refused}
use Rattle.exports.proofs.Calls.{write_kept}
use Rattle.exports.proofs.jinqewan_write.Goals as goal

pub returns-in_default : goal.returns-in_default
returns-in_default c = too_short _ _ _ _ _ (lt-leb joint_word_count _ c.in_default.ensures)

pub returns-in-Ok : goal.returns-in-Ok
returns-in-Ok c =
    let written = c.in-Ok.ensures ∙ ap (λ (joint : Joint). writing joint c.args.buffer.now) c.joint.ensures in
    rw (← c.in-Some.ensures)
    (taken _ 0 0 _ _ (le-leb joint_word_count _ c.in-Some.fields.enough) (sym (ap (λ (w : Writing). w.refusal) written)) (ap file_put written))

pub returns-in-Err : goal.returns-in-Err
returns-in-Err c =
    let written = c.in-Err.ensures ∙ ap (λ (joint : Joint). writing joint c.args.buffer.now) c.joint.ensures in
    let kept = write_kept _ _ _ _ (write_some c.in-Err.unwritten) written in
    rw (← c.in-Some.ensures)
    (ap (λ (bytes : List ℕ). let front : BufferFront = record { bytes = bytes; size = c.args.length.now } in answers c.number.result front) kept
    ∙ refused _ _ _ (le-leb joint_word_count _ c.in-Some.fields.enough) c.number.ensures (ap (λ (w : Writing). w.refusal) written)
    (write_some c.in-Err.unwritten))
