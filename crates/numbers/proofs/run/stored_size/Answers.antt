-- `run::stored_size` meets its contract: the sizes of the numbers are those of their stored forms, and their sum is that of the whole.
-- Assumes nothing.
use Rattle.std.proofs.Common.{ℕ, length, rules, tests, arith, ◌∙◌}
use Rattle.std.proofs.lemmas.Iterator.{YieldsList-from_slice, YieldsList-from_map}
use Rattle.std.proofs.lemmas.Iterator.Consumers.{sum_by_from_yields_List, fits_by_from_yields_list}
use Rattle.numbers.specs.Number.{stored}
use Rattle.numbers.proofs.Sizes.{stored_all_short, stored_all_sizes}
use Rattle.numbers.proofs.run.stored_size.Goals as goal

abbrev size : ℕ → ℕ
size x = length (stored x)

pub sum-requires-clause-fits : goal.sum-requires-clause-fits
sum-requires-clause-fits c =
    fits_by_from_yields_list size c.args.values.now c.map.result _
    (YieldsList-from_map _ size (YieldsList-from_slice c.args.values.now cc) c.map.ensures.closure (λ x r q k. search (rules, tests)))
    (omega (arith, stored_all_sizes c.args.values.now, stored_all_short c.args.values.now, c.well_formed))

pub returns : goal.returns
returns c =
    sum_by_from_yields_List size c.args.values.now c.map.result _ c.sum.ensures.ran
    (YieldsList-from_map _ size (YieldsList-from_slice c.args.values.now cc) c.map.ensures.closure (λ x r q k. search (rules, tests)))
    ∙ stored_all_sizes c.args.values.now
