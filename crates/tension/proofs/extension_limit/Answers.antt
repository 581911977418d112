-- `extension_limit` meets its contract: 0 if flush, else bending of the extension's own stub. Assumes nothing.
use native.Mathlib.Omega.{arith}
use borrow.Author.Tests.{ne_eqb}
use Rattle.arithmetic.proofs.Bounds.{at_most, exactly, loosen}
use Rattle.stubs.specs.InRange.{group_rows, StubWithin}
use Rattle.stubs.proofs.Sizes.{stub_within, extension_length_le}
use Rattle.tension.proofs.Sizes.{extension_parts}
use Rattle.tension.proofs.Worked.{extension_worked}
use Rattle.tension.proofs.extension_limit.Goals as goal

pub new-stub-requires : goal.new-stub-requires
new-stub-requires c = let a = c.args in rw c.from-end.ensures (extension_parts a.face.now a.m a.plate_edge a.strength a.pair c.requires c.if-face-eq0.false)

pub bending-requires : goal.bending-requires
bending-requires c =
    let a = c.args in
    let f = a.face.now in
    let parts = extension_parts f a.m a.plate_edge a.strength a.pair c.requires c.if-face-eq0.false in
    let most = extension_length_le a.m f.layout.edge a.plate_edge f.layout.gauge f.plate.width in
    let stub : StubWithin c.new-stub.result = rw (c.new-stub.ensures, c.from-end.ensures) (stub_within _ _ _ _ _ parts) in
    record {
      stub = stub;
      pair = c.requires.pair;
      rows = loosen group_rows (exactly 1) tt;
      length_most = at_most (omega (arith, c.extension_length-length.ensures, most, c.requires.face.plate.width.high));
      prying_moment_fits = omega (arith, stub.prying_moment.high);
    }

pub returns : goal.returns
returns c =
    let a = c.args in
    simp (ne_eqb _ _ c.if-face-eq0.false)
    (extension_worked a.face.now a.m a.plate_edge a.strength a.pair c.requires _ _ _
    (rw c.from-end.ensures at c.new-stub.ensures) c.extension_length-length.ensures c.bending.ensures)
