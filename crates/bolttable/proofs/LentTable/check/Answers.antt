-- `LentTable::check` meets its contract: the count is tried first, and then the sizes. Assumes nothing.
use mathlib.Core.Path.{sym, ◌∙◌}
use Rattle.bolttable.proofs.Checks.{by_count, by_sizes}
use Rattle.bolttable.proofs.Sizes.{first_sizes}
use Rattle.bolttable.proofs.LentTable.check.Goals as goal

pub returns-then-not-is_size_count : goal.returns-then-not-is_size_count
returns-then-not-is_size_count c = by_count _ (sym c.is_size_count.ensures ∙ c.if-not-is_size_count.true)

pub returns : goal.returns
returns c =
    let lent = c.args.self in
    rw (c.check_sizes.ensures, first_sizes lent.count lent.diameters.now lent.areas.now)
    (by_sizes _ (sym c.is_size_count.ensures ∙ c.if-not-is_size_count.false))
