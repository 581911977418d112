-- `allocate` meets its contract: each return is one case of the definition (the laws of `Answers`), and forces are the best. Assumes nothing.
use mathlib.Core.Path.{◌≡◌, refl, sym, ap, ◌∙◌}
use mathlib.Core.Bool.{true}
use Rattle.std.proofs.Common.{Ok}
use Rattle.arithmetic.specs.Range.{within}
use Rattle.joint.specs.Ranges.{row_counts}
use Rattle.sharing.specs.Groups.{group_count}
use Rattle.allocation.specs.Answers.{allocation_meaning}
use Rattle.allocation.proofs.Answers.{taken, no_refusal_is_best}
use Rattle.allocation.proofs.allocate.Goals as goal

pub returns : goal.returns
unfolding group_count
returns c =
    let rows : within row_counts c.args.count ≡ true = sym c.is_row_count.ensures ∙ c.if-not-is_row_count.false in
    let small = sym c.none_above_most.ensures ∙ c.if-not-none_above_most.false in
    let equals = ap (λ forces. allocation_meaning (Ok forces)) c.share.ensures ∙ sym (taken _ _ rows c.if-limits-groups.false small) in
    record { equals = equals; best = no_refusal_is_best _ _ _ (sym equals) refl }
