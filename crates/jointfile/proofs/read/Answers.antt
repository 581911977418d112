-- `read` meets its contract: the first part is refused, or is followed by the second's where its count is marked.
-- Assumes nothing.
use mathlib.Core.Path.{◌≡◌, sym, ap, ◌∙◌}
use mathlib.Core.List.{◌++◌}
use native.Mathlib.Omega.{arith}
use lib.ListN.{drop}
use Rattle.jointfile.specs.File.{read_second, read_joint, answer}
use Rattle.jointfile.specs.Answers.{read_refusal}
use Rattle.jointfile.proofs.Answers.{second_none, answer_got, unread, joint_stopped, joint_goes_on, count_stops, part_gives, refused_by}
use Rattle.jointfile.proofs.read.Goals as goal
use Rattle.jointfile.proofs.read.Goals.{In_ok-next}

goes_on : (c : In_ok-next) → read_joint c.args.kind c.args.bytes.now
    ≡ read_second (c.read_part.new.fields ++ drop c.stored_field_count-stored.result unread) c.read_part.new.levers
    (drop c.in_ok-next.next c.args.bytes.now)
goes_on c = joint_goes_on _ c.stored_field_count-stored.ensures (part_gives c.first_rows.ensures c.in_ok-count.ensures c.in_ok-next.ensures)

pub returns-in_err-count : goal.returns-in_err-count
returns-in_err-count c =
    refused_by _ c.from_residual.result c.from_residual.ensures.1 (λ y e. e)
    (joint_stopped _ c.stored_field_count-stored.ensures (count_stops c.in_err-count.ensures))

pub returns-in_err-next : goal.returns-in_err-next
returns-in_err-next c =
    refused_by _ c.from_residual-in_err-next.result c.from_residual-in_err-next.ensures.1 (λ y e. ap read_refusal e)
    (joint_stopped _ c.stored_field_count-stored.ensures (part_gives c.first_rows.ensures c.in_ok-count.ensures c.in_err-next.ensures))

pub returns-then-is_two_faced : goal.returns-then-is_two_faced
returns-then-is_two_faced c =
    let here = goal.at.returns-then-is_two_faced c in
    c.read_second.ensures ∙ ap (answer _) (sym (goes_on here.In_ok-next))

pub returns : goal.returns
returns c =
    let here = goal.at.returns c in
    let one = sym c.is_two_faced.ensures ∙ c.if-is_two_faced.false in
    let alone = goes_on here.In_ok-next ∙ second_none _ _ _ one in
    rw c.joint_of-joint.ensures
    (sym (ap (answer _) alone ∙ answer_got _ _ _ (omega (arith, c.in_ok-next.ensures.within, c.in_ok-count.ensures.within))))
