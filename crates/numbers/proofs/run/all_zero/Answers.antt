-- `run::all_zero` meets its contract: the definition goes over the numbers as `all` does. Assumes nothing.
use Rattle.std.proofs.Common.{◌∙◌, eqb, rules, tests}
use Rattle.std.proofs.lemmas.Iterator.{YieldsList-from_slice}
use Rattle.std.proofs.lemmas.Iterator.Search.{all_from_yields_List}
use Rattle.numbers.proofs.Puts.{all_by_each}
use Rattle.numbers.proofs.run.all_zero.Goals as goal

pub returns : goal.returns
returns c =
    let values = c.args.values.now in
    all_from_yields_List (λ x. eqb x 0) _ _ c.all.result c.all.ensures.ran (YieldsList-from_slice values cc)
    (λ x b q k. search (rules, tests))
    ∙ all_by_each values
