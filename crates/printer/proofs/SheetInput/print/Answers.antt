-- `SheetInput::print` meets its contract: the lines are put where there is room for them all, and else nothing is. Assumes nothing.
use mathlib.Core.Path.{sym}
use borrow.Author.Tests.{leb-true}
use Rattle.printer.proofs.Prints.{printed_short, printed_whole}
use Rattle.printer.proofs.SheetInput.print.Goals as goal

pub returns-then-not-has_room : goal.returns-then-not-has_room
returns-then-not-has_room c = printed_short _ _ (sym c.if-not-has_room.ensures)

pub put_lines-requires : goal.put_lines-requires
put_lines-requires c = leb-true _ _ (sym c.if-not-has_room.ensures)

pub returns : goal.returns
returns c = printed_whole _ _ (sym c.if-not-has_room.ensures) c.put_lines.ensures
