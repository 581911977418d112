-- Refusals 11, 19, 12 and 13 of Work, each as a test (rules 11.3, 11.10, 11.4 and 11.5). Rows count from 0.
-- Assumes nothing.
use Rattle.std.specs.Prelude.{ℕ, ◌+◌, ◌-◌, ◌*◌, Bool, cond, ◌&&◌, ◌||◌, List, ltb, leb, eqb, get_or, take}
use Rattle.arithmetic.specs.Table.{every}
use Rattle.joint.specs.declared.Face.{Face}
use Rattle.spacing.specs.Spacing.{least_distance, least_edge}
use Rattle.spacing.specs.declared.Spacing.{Spacing}

-- a lever is below the one above it by a distance or more; the first has none above
abbrev pub below_above_by : (distance : ℕ) (levers : List ℕ) (row lever : ℕ) → Bool
below_above_by distance levers row lever = eqb row 0 || leb (lever + distance) (get_or levers (row - 1) 0)

-- the levers of so many rows fall by a distance or more from each row to the next
unfoldable pub fall_by : (distance rows : ℕ) (levers : List ℕ) → Bool
fall_by distance rows levers = every (below_above_by distance levers) 0 (take rows levers)

-- rule 11.3: each lever is below the one above it: of whole numbers, by 1 or more
abbrev pub levers_fall : Face → Bool
levers_fall face = fall_by 1 face.rows face.levers

-- rule 11.10: what a spanner needs between neighbouring rows, by δ in millimetres
abbrev pub minimum_pitch : (diameter : ℕ) → ℕ
minimum_pitch diameter = 25 * diameter

-- and that all neighbours have it, the extension row and the one below it too
abbrev pub rows_apart : (diameter : ℕ) → Face → Bool
rows_apart diameter face = fall_by (minimum_pitch diameter) face.rows face.levers

-- rule 11.4: rows above the first one under the flange, 0 if flush and 1 if extended, are held against `over`, the others against
-- `under`
abbrev pub in_place : (first over under row lever : ℕ) → Bool
in_place first over under row lever = cond (ltb row first) (ltb over (2 * lever)) (ltb (2 * lever) under)

unfoldable pub rows_in_place : Face → Bool
rows_in_place face =
    let beam = face.beam in
    every (in_place face.extended (2 * beam.depth - beam.flange) (2 * beam.depth - 3 * beam.flange)) 0
    (take face.rows face.levers)

-- rule 11.5: m of the column or the plate, mx if extended, or an edge distance is too small
unfoldable pub too_tight : (extended : ℕ) → Spacing → Bool
too_tight extended spacing =
    ltb spacing.column least_distance
    || (ltb spacing.plate least_distance
    || ((eqb extended 1 && ltb spacing.extension least_distance)
    || (ltb spacing.column_edge least_edge || ltb spacing.plate_edge least_edge)))
