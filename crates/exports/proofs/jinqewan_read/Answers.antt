-- `jinqewan_read` meets its contract: the slice is too short for a joint, `read` refuses, or the words of its joint are the slice's front.
-- Assumes nothing.
use Rattle.std.proofs.Common.{ℕ, List, sym, ap, ◌∙◌}
use borrow.Author.Tests.{lt-leb, le-leb}
use Rattle.jointfile.specs.File.{Reading, reading}
use Rattle.jointfile.specs.declared.FileKind.{FileKind}
use Rattle.words.specs.Words.{joint_word_count}
use Rattle.exports.specs.Calls.{JointPlace, joint_put}
use Rattle.exports.proofs.Refusals.{read_some}
use Rattle.exports.proofs.Answers.{too_short, taken, refused}
use Rattle.exports.proofs.jinqewan_read.Goals as goal

pub returns-then-fields-lt-JOINT_WORDS : goal.returns-then-fields-lt-JOINT_WORDS
returns-then-fields-lt-JOINT_WORDS c = too_short _ _ _ _ _ (lt-leb joint_word_count _ c.if-fields-lt-JOINT_WORDS.true)

pub returns-in-Ok : goal.returns-in-Ok
returns-in-Ok c =
    let words = c.args.fields.now in
    let read = c.in-Ok.ensures ∙ ap (λ (kind : FileKind). reading kind c.args.bytes.now) c.kind_of.ensures in
    let put = ap (λ (w : List ℕ). let place : JointPlace = record { words = w; next = c.in-Ok.reading.next } in place) c.put_joint.ensures in
    taken _ 0 0 _ _ (le-leb joint_word_count _ c.if-fields-lt-JOINT_WORDS.false) (sym (ap (λ (r : Reading). r.refusal) read))
    (put ∙ ap (λ (r : Reading). joint_put r words) read)

pub returns-in-Err : goal.returns-in-Err
returns-in-Err c =
    let read = c.in-Err.ensures ∙ ap (λ (kind : FileKind). reading kind c.args.bytes.now) c.kind_of.ensures in
    refused _ _ _ (le-leb joint_word_count _ c.if-fields-lt-JOINT_WORDS.false) c.number.ensures (ap (λ (r : Reading). r.refusal) read)
    (read_some c.in-Err.unread)
