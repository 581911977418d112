-- `none_above_most` meets its contract: a low bitwise or, or else asking each limit, is the definition (the laws of `Bound`). Assumes nothing.
use mathlib.Core.Path.{◌≡◌, sym, ◌∙◌}
use lib.Dec.{leb}
use borrow.Author.Rules.{rules}
use borrow.Author.Tests.{tests, le-leb}
use native.Mathlib.Omega.{arith}
use Rattle.std.specs.Prelude.{bit_or}
use Rattle.std.specs.List.{fold}
use Rattle.std.proofs.lemmas.Iterator.{YieldsList-from_slice}
use Rattle.std.proofs.lemmas.Iterator.Search.{all_from_yields_List}
use Rattle.std.proofs.lemmas.Iterator.Consumers.{fold_from_yields_List}
use Rattle.sharing.specs.Groups.{most_limit}
use Rattle.allocation.proofs.Bound.{none_above_all, none_above_or}
use Rattle.allocation.proofs.none_above_most.Goals as goal

pub returns-then-bits-le-MOST : goal.returns-then-bits-le-MOST
returns-then-bits-le-MOST c =
    let limits = c.args.limits.now in
    let ored : c.fold-bits.result ≡ fold bit_or 0 limits
    = fold_from_yields_List _ bit_or _ _ c.fold-bits.ensures.ran (YieldsList-from_slice limits cc) (λ a x b q k. search rules) in
    simp (le-leb _ _ c.if-bits-le-MOST.true, none_above_or most_limit 0 limits (omega (arith, ored, c.if-bits-le-MOST.true)))

pub returns-else-bits-le-MOST : goal.returns-else-bits-le-MOST
returns-else-bits-le-MOST c =
    let limits = c.args.limits.now in
    all_from_yields_List (λ x. leb x most_limit) _ _ _ c.all.ensures.ran (YieldsList-from_slice limits cc) (λ x b q k. search (rules, tests))
    ∙ sym (none_above_all most_limit limits)
