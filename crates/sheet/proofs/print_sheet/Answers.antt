-- The sheet was printed whole: that there is no room for it never comes. Assumes nothing.
use Rattle.std.proofs.Common.{ℕ, subst, sym}
use Rattle.numbers.specs.Number.{Bytes}
use Rattle.sheet.specs.Whole.{Whole}
use Rattle.sheet.proofs.Room.{printed_whole}
use Rattle.sheet.proofs.print_sheet.Goals as goal

pub returns : goal.returns
returns c =
    let lent_bytes : Bytes c.args.input.now = λ k. (c.type_inv.input k).fits in
    let Printed : ℕ → Type 0 = λ size. Whole c.args.input.now c.args.output.now c.sheet.new.output size in
    subst Printed (sym c.unwrap_or.ensures)
    (printed_whole c.args.input.now c.args.output.now c.sheet.new.output lent_bytes c.requires c.sheet.result c.sheet.ensures)
