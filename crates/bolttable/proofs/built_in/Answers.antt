-- `built_in` is the definition's table, place by place. Assumes nothing.
use mathlib.Core.Path.{refl}
use Rattle.bolttable.specs.Loading.{built_in}
use Rattle.bolttable.proofs.built_in.Goals as goal

pub returns : goal.returns
unfolding built_in
returns c = refl
