-- The limit of a row group (rules 4): of each check that applies, and the least of those.
-- Rows count from 0. The first row below the beam flange is row 1 if flush, row 2 if extended: here 0 or 1, as field 2 is; a group
-- that begins above it begins at the extension row. W is the pair tension of the bolts. Assumes nothing.
use Rattle.std.specs.Prelude.{ℕ, suc, ◌-◌, ◌*◌, ◌/◌, min, cond, List, [], ◌∷◌, ◌++◌, ltb, eqb}
use Rattle.joint.specs.declared.Column.{Column}
use Rattle.joint.specs.declared.Face.{Face}
use Rattle.strength.specs.Steel.{steel_strength}
use Rattle.spacing.specs.Spacing.{column_m, plate_m, column_edge, plate_edge, extension_m, rise}
use Rattle.stubs.specs.Bending.{least_of, effective_edge, effective_length, effective_length_near_flange, extension_length, bending}
use Rattle.stubs.specs.Web.{web_tension}
use Rattle.sharing.specs.Groups.{Table}

-- rule 1.3: k
abbrev pub rows_in : ℕ → ℕ → ℕ
rows_in i j = suc j - i

-- rule 4.6: bending of the column flange
unfoldable pub column_flange_bending : Column → Face → (W i j : ℕ) → ℕ
column_flange_bending column face W i j =
    let m = column_m column face.layout in
    let e = column_edge column face.layout in
    bending m (effective_edge e (plate_edge face) m) column.flange (steel_strength column.grade column.flange)
    W (rows_in i j) (effective_length m e (rise face i j))

-- rule 4.7: plate bending of the extension row alone
unfoldable pub extension_bending : Face → (W : ℕ) → ℕ
extension_bending face W =
    let m = extension_m face in
    bending m (min (10 * face.layout.edge) (5 * m / 4)) face.plate.thickness
    (steel_strength face.plate.grade face.plate.thickness) W 1
    (extension_length m face.layout.edge (plate_edge face) face.layout.gauge face.plate.width)

-- rules 4.2 to 4.5: plate bending of a group that begins below the beam flange
unfoldable pub end_plate_bending : Column → Face → (W i j : ℕ) → ℕ
end_plate_bending column face W i j =
    let m = plate_m face in
    let e = plate_edge face in
    let s = rise face i j in
    bending m (effective_edge (column_edge column face.layout) e m) face.plate.thickness
    (steel_strength face.plate.grade face.plate.thickness) W (rows_in i j)
    (cond (eqb i face.extended) (effective_length_near_flange face.layout.alpha m s) (effective_length m e s))

-- rule 4.8: a longer group that begins at the extension row has none
unfoldable pub end_plate_limits : Column → Face → (W i j : ℕ) → List ℕ
end_plate_limits column face W i j =
    cond (ltb i face.extended)
    (cond (eqb (rows_in i j) 1) (extension_bending face W ∷ []) [])
    (end_plate_bending column face W i j ∷ [])

-- rule 4.9
unfoldable pub column_web_tension : Column → Face → (i j : ℕ) → ℕ
column_web_tension column face i j =
    web_tension face.layout.gauge (rise face i j) column.web (steel_strength column.grade column.flange)

-- rule 4.10: only for groups that begin below the first row under the flange
unfoldable pub beam_web_limits : Face → (i j : ℕ) → List ℕ
beam_web_limits face i j =
    cond (ltb face.extended i)
    (web_tension face.layout.gauge (rise face i j) face.beam.web (steel_strength face.beam.grade face.beam.flange) ∷ [])
    []

-- rule 4.11: the least of those that apply
unfoldable pub group_limit : Column → Face → (W : ℕ) → Table
group_limit column face W i j =
    least_of (column_flange_bending column face W i j)
    (end_plate_limits column face W i j ++ (column_web_tension column face i j ∷ beam_web_limits face i j))
