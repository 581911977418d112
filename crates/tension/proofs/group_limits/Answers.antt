-- `group_limits` meets its contract: the table agrees with the figures' limits, and those are the rules'. Assumes nothing.
use mathlib.Core.Path.{◌≡◌, ◌∙◌}
use Prim.Native.Nat.{◌-◌, zero-le}
use native.Mathlib.Omega.{arith}
use lib.ListN.{length, take}
use lib.Seq.{length-take-le, get_or-take}
use Rattle.std.proofs.Common.{rules}
use Rattle.joint.specs.Ranges.{row_counts}
use Rattle.sharing.proofs.Places.{group_count_le}
use Rattle.tension.specs.Admissible.{table_places}
use Rattle.tension.specs.Dimensions.{limit_by}
use Rattle.tension.specs.Limits.{rows_in}
use Rattle.tension.proofs.Filling.{whole}
use Rattle.tension.proofs.Sizes.{levers_of, dimensions_within}
use Rattle.tension.proofs.Worked.{limit_worked}
use Rattle.tension.proofs.group_limits.Goals as goal
use Rattle.tension.proofs.group_limits.Goals.{Start}

-- as many levers are lent as there are rows
long : (c : Start) → let face = c.args.face.now in length (take face.rows face.levers) ≡ face.rows
long c =
    let face = c.args.face.now in
    let eight : length face.levers ≡ row_counts.high = search rules in
    length-take-le face.rows face.levers (omega (arith, eight, c.requires.admissible.face.rows.high))

pub fill_limits-requires : goal.fill_limits-requires
fill_limits-requires c =
    let here = (goal.at.fill_limits-requires c).Start in
    let a = c.args in
    let places : length a.table.now ≡ table_places = search rules in
    let few = c.requires.admissible.face.rows.high in
    record {
      dimensions =
          rw c.new-d.ensures
          (dimensions_within a.column.now a.face.now c.requires.admissible a.pair c.requires.figures.pair);
      levers = levers_of a.column.now a.face.now c.requires.admissible (long here);
      inside = zero-le;
      places = omega (arith, places, group_count_le (length (take a.face.now.rows a.face.now.levers)) (omega (arith, long here, few)));
    }

pub returns : goal.returns
returns c =
    let here = (goal.at.returns c).Start in
    let a = c.args in
    let rows = a.face.now.rows in
    let levers = a.face.now.levers in
    let size : length c.fill_limits.new.table ≡ table_places = search rules in
    let filled = whole _ _ _ _ size (rw (long here) at c.fill_limits.ensures) in
    record {
      size = filled.size;
      agrees = λ row last h inside.
          let first = get_or-take rows levers row 0 (omega arith) in
          filled.agrees row last h inside
          ∙ (λ i. limit_by (c.new-d.ensures i) row (rows_in row last) (first i - get_or-take rows levers last 0 inside i))
          ∙ limit_worked a.column.now a.face.now a.pair row last;
      bounded = filled.bounded;
      untouched = filled.untouched;
    }
