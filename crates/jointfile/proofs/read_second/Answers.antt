-- `read_second` meets its contract: the second part is refused, or the joint has both. Assumes nothing.
use mathlib.Core.Path.{refl, sym, ap, ◌∙◌}
use native.Mathlib.Omega.{arith}
use Rattle.jointfile.specs.File.{answer}
use Rattle.jointfile.specs.Answers.{read_refusal}
use Rattle.jointfile.proofs.Answers.{second_stopped, second_taken, count_stops, part_gives, refused_by, answer_got}
use Rattle.jointfile.proofs.read_second.Goals as goal

pub returns-in_err-count : goal.returns-in_err-count
returns-in_err-count c =
    refused_by _ c.from_residual.result c.from_residual.ensures.1 (λ y e. e) (second_stopped _ _ c.requires.1 (count_stops c.in_err-count.ensures))

pub returns-in_err-next : goal.returns-in_err-next
returns-in_err-next c =
    refused_by _ c.from_residual-in_err-next.result c.from_residual-in_err-next.ensures.1 (λ y e. ap read_refusal e)
    (second_stopped _ _ c.requires.1 (part_gives refl c.in_ok-count.ensures c.in_err-next.ensures))

pub returns : goal.returns
returns c =
    let read = c.in_ok-next.ensures in
    rw c.joint_of-joint.ensures
    (sym (ap (answer _) (second_taken _ _ c.requires.1 (part_gives refl c.in_ok-count.ensures read))
    ∙ answer_got _ _ _ (omega (arith, read.within, c.in_ok-count.ensures.within))))
