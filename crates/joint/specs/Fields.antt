-- Rules 2.1 and 11.2, Work's refusal 10: each field's number with the test that it is in range, and the
-- first that fails. The list has fields 1 to 38, the eight levers with those that the file leaves out. Assumes nothing.
use Rattle.std.specs.Prelude.{ℕ, suc, ◌+◌, Bool, ◌&&◌, List, [], ◌∷◌, ◌++◌, ℤ, pos, neg_ℤ, Result, Ok, Err, Option, ⊤}
use Rattle.std.specs.Int.Signed.{le_z}
use Rattle.arithmetic.specs.Checks.{Check, first_failing}
use Rattle.arithmetic.specs.Range.{within}
use Rattle.arithmetic.specs.Table.{one_of}
use Rattle.bolttable.specs.Area.{is_listed}
use Rattle.joint.specs.Ranges.{row_counts, flags, classes, grades, depths, widths, flanges, webs, radii, clears}
use Rattle.joint.specs.Ranges.{plate_widths, thicknesses, gauges, edges, alphas, legs, weld_lengths, shear_row_counts}
use Rattle.joint.specs.Ranges.{loads, end_distances, levers}
use Rattle.joint.specs.declared.Column.{Column}
use Rattle.joint.specs.declared.Bolts.{Bolts}
use Rattle.joint.specs.declared.Beam.{Beam}
use Rattle.joint.specs.declared.Plate.{Plate}
use Rattle.joint.specs.declared.Layout.{Layout}
use Rattle.joint.specs.declared.Welds.{Welds}
use Rattle.joint.specs.declared.Loads.{Loads}
use Rattle.joint.specs.declared.Face.{Face}
use Rattle.joint.specs.declared.OutOfRange.{OutOfRange}

-- 1 to 4: the diameter is one that the bolt table in force lists
abbrev pub head_checks : (rows extended class : ℕ) → Option ℕ → List Check
head_checks rows extended class area =
    (1, within row_counts rows)
    ∷ (2, within (flags rows) extended)
    ∷ (3, one_of classes class)
    ∷ (4, is_listed area)
    ∷ []

-- 5 to 7
abbrev pub grade_checks : (column beam plate : ℕ) → List Check
grade_checks column beam plate = (5, one_of grades column) ∷ (6, one_of grades beam) ∷ (7, one_of grades plate) ∷ []

-- 8 to 13
abbrev pub column_checks : Column → List Check
column_checks column =
    (8, within depths column.depth)
    ∷ (9, within widths column.width)
    ∷ (10, within flanges column.flange)
    ∷ (11, within webs column.web)
    ∷ (12, within radii column.radius)
    ∷ (13, within clears column.clear)
    ∷ []

-- 14 to 17
abbrev pub beam_checks : Beam → List Check
beam_checks beam =
    (14, within depths beam.depth)
    ∷ (15, within widths beam.width)
    ∷ (16, within flanges beam.flange)
    ∷ (17, within webs beam.web)
    ∷ []

-- 18 to 22
abbrev pub plate_checks : (extended : ℕ) → Plate → Layout → List Check
plate_checks extended plate layout =
    (18, within plate_widths plate.width)
    ∷ (19, within thicknesses plate.thickness)
    ∷ (20, within gauges layout.gauge)
    ∷ (21, within (edges extended) layout.edge)
    ∷ (22, within alphas layout.alpha)
    ∷ []

-- 23 to 26
abbrev pub weld_checks : Welds → (shear_rows : ℕ) → List Check
weld_checks welds shear_rows =
    (23, within legs welds.flange)
    ∷ (24, within legs welds.web)
    ∷ (25, within weld_lengths welds.length)
    ∷ (26, within shear_row_counts shear_rows)
    ∷ []

-- −10000000 to 10000000, the ends of the loads' range with both signs
abbrev pub within_both_signs : ℤ → Bool
within_both_signs force = le_z (neg_ℤ (pos loads.high)) force && le_z force (pos loads.high)

-- 27 to 30: z is the column's, and comes after the loads
abbrev pub load_checks : Loads → (end_distance : ℕ) → List Check
load_checks forces end_distance =
    (27, within_both_signs forces.axial)
    ∷ (28, within loads forces.shear)
    ∷ (29, within loads forces.moment)
    ∷ (30, within end_distances end_distance)
    ∷ []

-- 30 + k for row k, which counts from 1: 31 and on for the levers from `row`, which counts from 0
unfoldable pub lever_checks : (n row : ℕ) → List ℕ → List Check
lever_checks n row [] = []
lever_checks n row (h ∷ hs) = (31 + row, within (levers n row) h) ∷ lever_checks n (suc row) hs

-- 1 to 30
unfoldable pub fixed_checks : Column → Bolts → Option ℕ → Face → List Check
fixed_checks column bolts area face =
    head_checks face.rows face.extended bolts.class area
    ++ grade_checks column.grade face.beam.grade face.plate.grade
    ++ column_checks column
    ++ beam_checks face.beam
    ++ plate_checks face.extended face.plate face.layout
    ++ weld_checks face.welds face.shear_rows
    ++ load_checks face.loads column.end_distance

-- all fields of a column, its bolts with the area that the table in force lists for them, and one face
unfoldable pub field_checks : Column → Bolts → Option ℕ → Face → List Check
field_checks column bolts area face = fixed_checks column bolts area face ++ lever_checks face.rows 0 face.levers

-- what checks answer: nothing, or the number of the first field that fails
abbrev pub FieldCheck : Type 0
FieldCheck = Result ⊤ OutOfRange

abbrev pub outside : (field : ℕ) → FieldCheck
outside field = Err (record { field = field })

abbrev pub found_by : List Check → FieldCheck
found_by checks = first_failing (Ok tt) outside checks

-- what checking all fields answers
unfoldable pub field_check : Column → Bolts → Option ℕ → Face → FieldCheck
field_check column bolts area face = found_by (field_checks column bolts area face)

-- the field that an answer tells, 0 where all are in range
abbrev pub field_of : FieldCheck → ℕ
field_of (Ok done) = 0
field_of (Err found) = found.field
