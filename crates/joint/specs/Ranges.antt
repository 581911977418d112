-- Rules 2.1, 2.2 and 2.4: the range of each field, both ends included, in the order of the fields.
-- Assumes nothing.
use Rattle.std.specs.Prelude.{ℕ, cond, List, [], ◌∷◌, ltb, eqb}
use Rattle.arithmetic.specs.Range.{Range, ◌to◌}

-- field 1, n, of a face; that of a joint's first face may be marked (`Faces`)
abbrev pub row_counts : Range
row_counts = 0 to 8

-- field 2: 0 flush, 1 extended; with no rows none stands above the beam flange
abbrev pub flags : (rows : ℕ) → Range
flags rows = cond (eqb rows 0) (0 to 0) (0 to 1)

-- field 3
abbrev pub classes : List ℕ
classes = 46 ∷ 88 ∷ 109 ∷ []

-- fields 5, 6, 7
abbrev pub grades : List ℕ
grades = 275 ∷ 355 ∷ []

-- fields 8 to 13: Dc, Bc, Tc, tc, rc, dc; the first four are the beam's too, 14 to 17
abbrev pub depths : Range
depths = 1000 to 15000

abbrev pub widths : Range
widths = 500 to 6000

abbrev pub flanges : Range
flanges = 40 to 500

abbrev pub webs : Range
webs = 30 to 400

abbrev pub radii : Range
radii = 0 to 400

abbrev pub clears : Range
clears = 500 to 14000

-- fields 18 and 19: bp, tp
abbrev pub plate_widths : Range
plate_widths = 500 to 6000

abbrev pub thicknesses : Range
thicknesses = 60 to 500

-- fields 20, 21, 22: g; ex, 0 if flush; alpha
abbrev pub gauges : Range
gauges = 300 to 3000

abbrev pub edges : ℕ → Range
edges extended = cond (eqb extended 0) (0 to 0) (150 to 2000)

abbrev pub alphas : Range
alphas = 400 to 800

-- fields 23 to 26: sf and sw, Lw, shear rows
abbrev pub legs : Range
legs = 30 to 250

abbrev pub weld_lengths : Range
weld_lengths = 0 to 15000

abbrev pub shear_row_counts : Range
shear_row_counts = 0 to 8

-- fields 27 to 29: the size of N, whose sign is free; V and M
abbrev pub loads : Range
loads = 0 to 10000000

-- field 30: z
abbrev pub end_distances : Range
end_distances = 1 to 15000

-- the greatest lever
abbrev pub most_lever : ℕ
most_lever = 20000

-- field 30+k: h of row k, spare levers past row n; `row` counts from 0
abbrev pub levers : (n row : ℕ) → Range
levers n row = cond (ltb row n) (1 to most_lever) (0 to 0)
