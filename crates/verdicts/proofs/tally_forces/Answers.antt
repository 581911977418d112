-- `tally_forces` meets its contract: each turn counts one row more (the law `one_more`). Assumes nothing.
use mathlib.Core.Path.{◌≡◌, refl, ◌∙◌}
use mathlib.Core.Bool.{Bool, true, false, not, cond}
use Rattle.std.specs.Int.{from_bool}
use native.Mathlib.Omega.{arith}
use lib.Dec.{eqb}
use Prim.Native.Nat.{◌+◌}
use mathlib.Core.List.{[], ◌∷◌, ◌++◌}
use lib.ListN.{length}
use Rattle.std.proofs.lemmas.List.{length_push}
use Rattle.std.proofs.lemmas.Slice.Zip.{zip_turn}
use Rattle.verdicts.proofs.Tallying.{Next, row_moment_le, start, one_more}
use Rattle.verdicts.proofs.tally_forces.Goals as goal
use Rattle.verdicts.proofs.tally_forces.Goals.{In-Some}

-- 1 for a row with a force
counts : (none : Bool) → from_bool (not none) ≡ cond none 0 1
counts true = refl
counts false = refl

-- the row of a turn
next : (c : In-Some) → Next c.args.levers.now c.args.forces.now (length c.loop-force.yielded) c.in-Some.force.now c.in-Some.lever.now
next c =
    let a = c.args in
    let row = length c.loop-force.yielded in
    let t = zip_turn a.forces.now a.levers.now _ c.into_iter-force-iterator.result _ c.next.new.self _ (cc) (cc) c.loop-force.yielded_by _ c.in-Some.is c.next.ensures.steps in
    record {
      lever_inside = omega (arith, t.0, t.1);
      force_inside = omega (arith, t.0);
      force_is = t.2 0;
      lever_is = t.3 0;
      force_most = rw (t.2 0) (c.requires.force_most row);
      lever_most = rw (t.3 0) (c.requires.lever_most row);
    }

pub loop-force-init : goal.loop-force-init
loop-force-init c = start _ _

pub overflow_add-sum : goal.overflow_add-sum
overflow_add-sum c =
    let here = goal.at.overflow_add-sum c in
    let n = next here.In-Some in
    omega (arith, c.loop-force.invariant.sum_le, n.force_most, n.force_inside)

pub overflow_mul-moment : goal.overflow_mul-moment
overflow_mul-moment c =
    let here = goal.at.overflow_mul-moment c in
    let n = next here.In-Some in
    rw c.from.ensures (omega (arith, row_moment_le _ _ n.force_most n.lever_most))

pub overflow_add-moment : goal.overflow_add-moment
overflow_add-moment c =
    let here = goal.at.overflow_add-moment c in
    let n = next here.In-Some in
    rw c.from.ensures (omega (arith, c.loop-force.invariant.moment_le, n.force_inside, row_moment_le _ _ n.force_most n.lever_most))

pub loop-force-preserved : goal.loop-force-preserved
loop-force-preserved c =
    let here = goal.at.loop-force-preserved c in
    let long : length (c.loop-force.yielded ++ ((c.in-Some.force, c.in-Some.lever) ∷ [])) ≡ length c.loop-force.yielded + 1 = length_push _ _ in
    rw (long, c.from.ensures)
    (one_more _ _ _ _ _ _ _ _ (next here.In-Some) _ (c.from-pulling.ensures ∙ counts (eqb c.in-Some.force.now 0)) c.loop-force.invariant)
