-- `share_rows` meets its contract: each turn gives one row its force (the law `turn`). Assumes nothing.
use mathlib.Core.Path.{◌≡◌, sym, ap, ◌∙◌}
use Rattle.std.specs.Prelude.{unwrap_or}
use Prim.Native.Nat.{◌+◌, ◌*◌, ◌≤◌, min}
use lib.ListN.{get_or}
use native.Mathlib.Omega.{arith}
use Rattle.joint.specs.Ranges.{most_lever}
use Rattle.sharing.specs.Groups.{listed, most_limit}
use Rattle.sharing.specs.Triangle.{limits_in}
use Rattle.allocation.specs.Steps.{triangle_of, AddedAsked, added_on}
use Rattle.allocation.proofs.InTriangle.{rows_lowered, single_limit, added_small}
use Rattle.allocation.proofs.Rows.{start, rest_length, forces_le_most, countable, counted_le, down_grows, turn, finish}
use Rattle.allocation.proofs.share_rows.Goals as goal
use Rattle.allocation.proofs.share_rows.Goals.{After-count_groups, Joined-added_on, in-Some, in-None}

pub loop-row-init : goal.loop-row-init
loop-row-init c = start c.requires.0 (rows_lowered _)

pub split_at-requires : goal.split_at-requires
split_at-requires c = rest_length c.requires.0 (rows_lowered _) c.loop-row.invariant c.loop-row-test.true

pub count_groups-requires : goal.count_groups-requires
count_groups-requires c =
    countable c.requires.0 (rows_lowered _) c.loop-row.invariant c.loop-row-test.true c.split_at.ensures.front

-- the limit of the row alone, by what is added on it
single : (c : Joined-added_on) → let triangle = triangle_of c.args.triangle in
    let limit = listed c.args.count c.args.limits.now in
    let row = c.loop-row.row in
    limits_in triangle limit c.args.count row row ≡ min (limit row row) (unwrap_or (added_on triangle c.loop-row.forces row) most_limit)
single c = single_limit c.requires.0 c.loop-row-test.true (triangle_of c.args.triangle) c.loop-row.invariant

asked : (c : After-count_groups) → AddedAsked (triangle_of c.args.triangle) c.loop-row.forces c.loop-row.row
asked c = record {
  n = c.args.count;
  fits = c.requires.1;
  few = c.requires.0.rows;
  inside = c.loop-row-test.true;
  bounded = forces_le_most c.requires.0 (rows_lowered _) c.loop-row.invariant c.loop-row-test.true;
}

pub added_on-requires : goal.added_on-requires
added_on-requires c = asked (goal.at.added_on-requires c).After-count_groups

pub overflow_add-above : goal.overflow_add-above
overflow_add-above c =
    let here = (goal.at.overflow_add-above c).After-count_groups in
    let told = sym c.added_on.ensures ∙ c.in-Some.is in
    let small : c.in-Some.added ≤ most_limit * most_lever = rw told at (added_small _ _ _ (asked here)) in
    omega (arith, small, (countable c.requires.0 (rows_lowered _) c.loop-row.invariant c.loop-row-test.true c.split_at.ensures.front).small)

-- the sum down to the row, by what its groups leave and what is added on it
sum : (c : Joined-added_on) → c.match-added_on.sum
    ≡ min (get_or c.count_groups.new.sums c.loop-row.row 0)
    (c.loop-row.above + unwrap_or (added_on (triangle_of c.args.triangle) c.loop-row.forces c.loop-row.row) most_limit)
sum c = elim c.match-added_on.branch [
  | in-Some w ↦ omega (arith, w.sum-is, w.min-sum.ensures, ap (λ o. unwrap_or o most_limit) (sym w.in-Some.is ∙ c.added_on.ensures))
  | in-None w ↦
      let few = counted_le c.requires.0 (rows_lowered _) c.loop-row.invariant c.loop-row-test.true c.split_at.ensures.front
      c.count_groups.ensures in
      omega (arith, few, w.sum-is, ap (λ o. unwrap_or o most_limit) (sym w.in-None.is ∙ c.added_on.ensures))
]

pub overflow_sub-forces : goal.overflow_sub-forces
overflow_sub-forces c =
    let here = (goal.at.overflow_sub-forces c).Joined-added_on in
    down_grows c.requires.0 (rows_lowered _) c.loop-row.invariant c.loop-row-test.true c.split_at.ensures.front
    c.count_groups.ensures _ (single here) (sum here)

pub loop-row-preserved : goal.loop-row-preserved
loop-row-preserved c =
    let here = (goal.at.loop-row-preserved c).Joined-added_on in
    rw c.split_at.ensures.back
    (turn c.requires.0 (rows_lowered _) c.loop-row.invariant c.loop-row-test.true c.split_at.ensures.front
    c.count_groups.ensures _ (single here) (sum here))

pub returns : goal.returns
returns c = finish c.requires.0 (rows_lowered _) c.loop-row.invariant (omega (arith, c.loop-row-test.false))
