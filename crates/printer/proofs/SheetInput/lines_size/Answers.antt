-- `SheetInput::lines_size` meets its contract: there is no count past what a sheet of so many bytes takes. Assumes nothing.
use native.Mathlib.Omega.{arith}
use Rattle.printer.proofs.Sizes.{lines_size}
use Rattle.printer.proofs.SheetInput.lines_size.Goals as goal

pub put_joints-requires : goal.put_joints-requires
put_joints-requires c = omega (arith, lines_size c.args.self.bytes.now c.args.self.fit, c.args.self.few)
