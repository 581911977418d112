-- `compression::web_buckling` meets its contract: the root is web buckling, by the law in Buckling.antt.
-- The ranges only just keep the limit within 64 bits.
-- Assumes nothing.
use Prim.Native.Nat.{ℕ, ◌*◌}
use Rattle.arithmetic.specs.Range.{Within, ◌to◌}
use Rattle.arithmetic.proofs.Bounds.{exactly, ◌⊗◌, fits}
use Rattle.joint.specs.Ranges.{webs}
use Rattle.joint.specs.declared.Column.{Column}
use Rattle.compression.specs.InRange.{ColumnWebParts}
use Rattle.compression.proofs.Buckling.{buckling_root}
use Rattle.compression.proofs.web_buckling.Goals as goal

squared : {b yc : ℕ} {column : Column} → ColumnWebParts b yc column
    → Within (webs.low * webs.low to webs.high * webs.high) (column.web * column.web)
squared r = r.column.web ⊗ r.column.web

pub overflow_mul-squared : goal.overflow_mul-squared
overflow_mul-squared c = rw c.from-web.ensures (fits (squared c.requires) tt)

pub overflow_mul-limit-2 : goal.overflow_mul-limit-2
overflow_mul-limit-2 c = let r = c.requires in fits (exactly 275 ⊗ r.bearing_length ⊗ r.strength) tt

pub overflow_mul-limit-3 : goal.overflow_mul-limit-3
overflow_mul-limit-3 c = let r = c.requires in rw c.from-web.ensures (fits (exactly 275 ⊗ r.bearing_length ⊗ r.strength ⊗ squared r) tt)

pub overflow_mul-limit-4 : goal.overflow_mul-limit-4
overflow_mul-limit-4 c = let r = c.requires in rw c.from-web.ensures (fits (exactly 275 ⊗ r.bearing_length ⊗ r.strength ⊗ squared r ⊗ squared r) tt)

pub returns : goal.returns
returns c = let a = c.args in rw (c.unwrap_or.ensures, c.square_root.ensures, c.from-web.ensures, c.from.ensures) (buckling_root a.length a.strength a.column c.requires)
