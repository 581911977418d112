-- `jinqewan_rest` meets its contract: what is left is the end of the bytes, so it begins at the difference of the lengths.
-- Assumes nothing.
use Rattle.std.proofs.Common.{◌≡◌, ◌-◌, length, sym, ap, ◌∙◌, arith, length-drop}
use Rattle.jointfile.specs.File.{reading}
use Rattle.jointfile.proofs.Places.{next_left, next_within}
use Rattle.exports.proofs.jinqewan_rest.Goals as goal
use Rattle.exports.proofs.jinqewan_rest.Goals.{After-rest}

left : (c : After-rest) → let bytes = c.args.bytes.now in length c.rest.result.now ≡ length bytes - (reading c.kind_of.result bytes).next
left c =
    let bytes = c.args.bytes.now in
    ap length (c.rest.ensures.value ∙ sym (next_left c.kind_of.result bytes)) ∙ length-drop (reading c.kind_of.result bytes).next bytes

pub overflow_sub-result : goal.overflow_sub-result
overflow_sub-result c = omega (arith, left (goal.at.overflow_sub-result c).After-rest)

pub returns : goal.returns
returns c =
    rw (← c.kind_of.ensures)
    (omega (arith, left (goal.at.returns c).After-rest, next_within c.kind_of.result c.args.bytes.now))
