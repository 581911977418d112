-- `LentTable::area_of` meets its contract: a count out of range lists nothing, and else the pass finds what the table lists. Assumes nothing.
use mathlib.Core.Path.{sym, ◌∙◌}
use Rattle.bolttable.specs.Lent.{table_of}
use Rattle.bolttable.proofs.Passes.{passed, uncounted}
use Rattle.bolttable.proofs.Sizes.{first_sizes}
use Rattle.bolttable.proofs.LentTable.area_of.Goals as goal

pub returns-then-not-is_size_count : goal.returns-then-not-is_size_count
returns-then-not-is_size_count c = uncounted (table_of c.args.self) _ (sym c.is_size_count.ensures ∙ c.if-not-is_size_count.true)

pub returns : goal.returns
returns c =
    let lent = c.args.self in
    rw (c.area_among.ensures, first_sizes lent.count lent.diameters.now lent.areas.now)
    (passed (table_of lent) (sym c.is_size_count.ensures ∙ c.if-not-is_size_count.false) _)
