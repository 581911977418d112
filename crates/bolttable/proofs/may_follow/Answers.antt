-- `may_follow` meets its contract: the diameter's tests come first, and bound the product in the area's. Assumes nothing.
use lib.Dec.{leb, ltb, leb→le}
use Prim.Native.Nat.{◌≤◌}
use mir.Facts.{and_yes}
use Rattle.arithmetic.proofs.Bounds.{exactly, at_most, ◌⊗◌, fits}
use Rattle.bolttable.specs.Loading.{bolt_diameters}
use Rattle.bolttable.proofs.may_follow.Goals as goal

pub overflow_mul-result-3 : goal.overflow_mul-result-3
overflow_mul-result-3 c =
    let a = c.args in
    let both = and_yes (ltb a.last a.diameter) (leb a.diameter bolt_diameters.high) (rw c.if-not-last-diameter.false tt) in
    let most : c.from-across.result ≤ bolt_diameters.high = rw c.from-across.ensures (leb→le _ _ both.1) in
    fits (exactly 785 ⊗ at_most most ⊗ at_most most) tt

pub returns : goal.returns
returns c = simp (c.from-across.ensures, c.from.ensures, c.if-not-last-diameter.false)
