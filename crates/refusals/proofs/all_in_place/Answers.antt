-- `all_in_place` meets its contract: asking each row with its number is the definition (the law of `Rows`). Assumes nothing.
use mathlib.Core.Path.{sym, ◌∙◌}
use borrow.Author.Rules.{rules}
use borrow.Author.Tests.{tests}
use Rattle.std.proofs.lemmas.Iterator.{YieldsList-from_slice}
use Rattle.std.proofs.lemmas.Iterator.Consumers.{YieldsList-from_enumerate}
use Rattle.std.proofs.lemmas.Iterator.Search.{all_from_yields_List}
use Rattle.refusals.specs.Refusals.{in_place}
use Rattle.refusals.proofs.Rows.{every_by_number}
use Rattle.refusals.proofs.all_in_place.Goals as goal

pub returns : goal.returns
returns c =
    let a = c.args in
    let test = in_place a.first a.over a.under in
    all_from_yields_List (λ p. test p.0 p.1) _ _ _ c.all.ensures.ran
    (YieldsList-from_enumerate (YieldsList-from_slice a.levers.now cc) cc) (λ x b q k. search (rules, tests))
    ∙ sym (every_by_number test a.levers.now 0)
