-- `Dimensions::fill_limits` meets its contract: a row's own limits, and after them those of the rows below (the law `row_more`). Assumes
-- nothing.
use Rattle.std.proofs.Common.{ℕ, ◌≡◌, ◌+◌, ◌-◌, ◌<◌, ◌∙◌, length, get_or, arith, add-one, rules, length-drop}
use Rattle.std.proofs.lemmas.List.{take_rest}
use Rattle.tension.specs.Dimensions.{limits_by}
use Rattle.tension.proofs.Filling.{finish, row_more, room_below}
use Rattle.tension.proofs.Worked.{own_limit, own_limit_small}
use Rattle.tension.proofs.Dimensions.+fill_limits.Goals as goal

pub split_at_mut-own-requires : goal.split_at_mut-own-requires
split_at_mut-own-requires t c = (room_below _ c.args.row _ c.if-row-levers.true c.requires.places).0

pub fill_limits-requires : goal.fill_limits-requires
fill_limits-requires t c =
    let room = room_below _ c.args.row _ c.if-row-levers.true c.requires.places in (
      search rules,
      record {
        dimensions = c.requires.dimensions;
        levers = c.requires.levers;
        inside = omega arith;
        places = omega (arith, room.0, room.1, c.split_at_mut-own.ensures.back_len);
      },
    )

pub returns-then-row-levers : goal.returns-then-row-levers
returns-then-row-levers t c =
    let d = c.args.self.now in
    let levers = c.args.levers.now in
    let row = c.args.row in
    let filled = rw (take_rest levers row) at c.fill_row.ensures in
    let own : (k : ℕ) → k < length levers - row → get_or c.fill_row.new.limits k 0 ≡ limits_by d levers row (row + k)
    = λ k h. filled k (omega (arith, length-drop row levers)) ∙ own_limit d levers row k in
    row_more (length levers) (limits_by d levers) row c.if-row-levers.true c.args.table.now c.fill_row.new.limits c.fill_limits.new.table
    (omega (arith, c.fill_row.auto.limits, c.split_at_mut-own.ensures.front_len))
    own
    (λ k h. omega (arith, own k h, own_limit_small d levers row k c.requires.dimensions (omega (arith, c.requires.levers.rows))))
    (rw (add-one row, c.split_at_mut-own.ensures.back) at c.fill_limits.ensures)

pub returns-else-row-levers : goal.returns-else-row-levers
returns-else-row-levers t c = finish _ _ _ _ (omega (arith, c.requires.inside))
