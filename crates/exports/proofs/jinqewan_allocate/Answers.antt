-- `jinqewan_allocate` meets its contract: the slice is too short for eight forces, `allocate` refuses, or its forces are the slice's front,
-- and the best there are. Assumes nothing.
use Rattle.std.proofs.Common.{◌≡◌, ◌++◌, drop, length, sym, ap, ◌∙◌, rules}
use borrow.Author.Tests.{lt-leb, le-leb}
use Rattle.allocation.specs.Allocation.{Allocation}
use Rattle.buffers.specs.Put.{at_front}
use Rattle.exports.proofs.Answers.{too_short, taken, refused}
use Rattle.exports.proofs.Refusals.{limits_some}
use Rattle.exports.proofs.jinqewan_allocate.Goals as goal

pub returns-then-forces-lt8-clause-equals : goal.returns-then-forces-lt8-clause-equals
returns-then-forces-lt8-clause-equals c = too_short _ _ _ _ _ (lt-leb 8 _ c.if-forces-lt8.true)

pub returns-in-Ok-clause-equals : goal.returns-in-Ok-clause-equals
returns-in-Ok-clause-equals c =
    let allocation = c.in-Ok.ensures.equals in
    let eight : length c.in-Ok.eight ≡ 8 = search rules in
    let front : (c.copy_from_slice.new.self ++ drop 8 c.args.forces.now) ≡ at_front c.in-Ok.eight c.args.forces.now =
    rw (c.copy_from_slice.ensures.after, eight) in
    taken _ 0 0 _ _ (le-leb 8 _ c.if-forces-lt8.false) (sym (ap (λ (a : Allocation). a.refusal) allocation))
    (front ∙ ap (λ (a : Allocation). at_front a.forces c.args.forces.now) allocation)

pub returns-in-Err-clause-equals : goal.returns-in-Err-clause-equals
returns-in-Err-clause-equals c =
    refused _ _ _ (le-leb 8 _ c.if-forces-lt8.false) c.number.ensures (ap (λ (a : Allocation). a.refusal) c.in-Err.ensures.equals)
    (limits_some c.in-Err.refusal)
