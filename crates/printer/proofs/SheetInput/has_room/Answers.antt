-- `SheetInput::has_room` meets its contract: there is room for the longest sheet of so many bytes, or the lines were measured. Assumes nothing.
use Prim.Native.Nat.{ℕ}
use mathlib.Core.Path.{sym, ap, ◌∙◌}
use native.Mathlib.Omega.{arith}
use borrow.Author.Tests.{le-leb}
use lib.Dec.{leb}
use lib.ListN.{length}
use Rattle.line.specs.Line.{concatenated}
use Rattle.printer.specs.Sheet.{lines_of}
use Rattle.printer.proofs.Sizes.{lines_size}
use Rattle.printer.proofs.SheetInput.has_room.Goals as goal

pub returns-then-most_printed-room : goal.returns-then-most_printed-room
returns-then-most_printed-room c =
    let args = c.args in
    let input = args.self.bytes.now in
    let most = le-leb c.most_printed.result args.room c.if-most_printed-room.true in
    let fits =
    le-leb (length (concatenated (lines_of 1 input))) args.room
    (omega (arith, lines_size input c.args.self.fit, c.most_printed.ensures, c.if-most_printed-room.true)) in
    most ∙ sym fits

pub returns-else-most_printed-room : goal.returns-else-most_printed-room
returns-else-most_printed-room c = ap (λ (size : ℕ). leb size c.args.room) c.lines_size.ensures
