-- The fields before the levers in file order (rules 2.1, 9.2 and 9.8; of field 27, rule 9.1): the joint that has
-- them, and those of a joint. Assumes nothing.
use Rattle.std.specs.Prelude.{ℕ, ◌+◌, ◌-◌, ◌*◌, ◌/◌, ◌%◌, List, [], ◌∷◌, map, cond, eqb, ℤ, pos, negsuc, get_or}
use Rattle.joint.specs.declared.Beam.{Beam}
use Rattle.joint.specs.declared.Bolts.{Bolts}
use Rattle.joint.specs.declared.Column.{Column}
use Rattle.joint.specs.declared.Face.{Face}
use Rattle.joint.specs.declared.Joint.{Joint}
use Rattle.joint.specs.declared.Layout.{Layout}
use Rattle.joint.specs.declared.Loads.{Loads}
use Rattle.joint.specs.declared.Plate.{Plate}
use Rattle.joint.specs.declared.Welds.{Welds}

-- N as a number of the file: twice it, or one less than twice its size when negative. `negsuc n` is the integer -n - 1.
unfoldable pub stored_axial : ℤ → ℕ
stored_axial (pos n) = 2 * n
stored_axial (negsuc n) = 2 * n + 1

-- the N that a number of the file stands for
unfoldable pub axial_of : ℕ → ℤ
axial_of x = cond (eqb (x % 2) 0) (pos (x / 2)) (negsuc (x / 2))

-- how many fields stand before the levers: 1 to 30
abbrev pub field_count : ℕ
field_count = 30

-- field k of a file is its k-th number
abbrev pub field : ℕ → List ℕ → ℕ
field k fields = get_or fields (k - 1) 0

abbrev pub column_of : List ℕ → Column
column_of fields =
    record {
      grade = field 5 fields;
      depth = field 8 fields;
      width = field 9 fields;
      flange = field 10 fields;
      web = field 11 fields;
      radius = field 12 fields;
      clear = field 13 fields;
      end_distance = field 30 fields;
    }

abbrev pub bolts_of : List ℕ → Bolts
bolts_of fields = record { class = field 3 fields; diameter = field 4 fields }

-- ---- A face, from the numbers of its part of the file: fields 1 and 2 come first, `sixth` is the place of field 6, with 7 after it, and
-- `fourteenth` that of field 14, with 15 to 29 after it.

abbrev pub beam_of : (numbers : List ℕ) (sixth fourteenth : ℕ) → Beam
beam_of numbers sixth fourteenth =
    record {
      grade = get_or numbers sixth 0;
      depth = get_or numbers fourteenth 0;
      width = get_or numbers (fourteenth + 1) 0;
      flange = get_or numbers (fourteenth + 2) 0;
      web = get_or numbers (fourteenth + 3) 0;
    }

abbrev pub plate_of : (numbers : List ℕ) (sixth fourteenth : ℕ) → Plate
plate_of numbers sixth fourteenth =
    record {
      grade = get_or numbers (sixth + 1) 0;
      width = get_or numbers (fourteenth + 4) 0;
      thickness = get_or numbers (fourteenth + 5) 0;
    }

abbrev pub layout_of : (numbers : List ℕ) (fourteenth : ℕ) → Layout
layout_of numbers fourteenth =
    record {
      gauge = get_or numbers (fourteenth + 6) 0;
      edge = get_or numbers (fourteenth + 7) 0;
      alpha = get_or numbers (fourteenth + 8) 0;
    }

abbrev pub welds_of : (numbers : List ℕ) (fourteenth : ℕ) → Welds
welds_of numbers fourteenth =
    record {
      flange = get_or numbers (fourteenth + 9) 0;
      web = get_or numbers (fourteenth + 10) 0;
      length = get_or numbers (fourteenth + 11) 0;
    }

abbrev pub loads_of : (numbers : List ℕ) (fourteenth : ℕ) → Loads
loads_of numbers fourteenth =
    record {
      axial = axial_of (get_or numbers (fourteenth + 13) 0);
      shear = get_or numbers (fourteenth + 14) 0;
      moment = get_or numbers (fourteenth + 15) 0;
    }

abbrev pub face_of : (numbers : List ℕ) (sixth fourteenth : ℕ) (levers : List ℕ) → Face
face_of numbers sixth fourteenth levers =
    record {
      rows = get_or numbers 0 0;
      extended = get_or numbers 1 0;
      beam = beam_of numbers sixth fourteenth;
      plate = plate_of numbers sixth fourteenth;
      layout = layout_of numbers fourteenth;
      welds = welds_of numbers fourteenth;
      shear_rows = get_or numbers (fourteenth + 12) 0;
      loads = loads_of numbers fourteenth;
      levers = levers;
    }

-- the first face among fields 1 to 30
abbrev pub first_face_of : (fields levers : List ℕ) → Face
first_face_of fields levers = face_of fields 5 13 levers

-- rule 9.8: the fields that a second face has of its own, and how many they are
abbrev pub own_fields : List ℕ
own_fields = 1 ∷ 2 ∷ 6 ∷ 7 ∷ 14 ∷ 15 ∷ 16 ∷ 17 ∷ 18 ∷ 19 ∷ 20 ∷ 21 ∷ 22 ∷ 23 ∷ 24 ∷ 25 ∷ 26 ∷ 27 ∷ 28 ∷ 29 ∷ []

abbrev pub own_count : ℕ
own_count = 20

-- those of fields 1 to 30
unfoldable pub own_of : List ℕ → List ℕ
own_of fields = map (λ k. field k fields) own_fields

-- the second face among them: 6 is the third of them and 14 the fifth
abbrev pub second_face_of : (own levers : List ℕ) → Face
second_face_of own levers = face_of own 2 4 levers

-- A joint of its fields before the levers, in file order, and its eight levers; and of what its second face has of its own, and the eight
-- levers of that.
unfoldable pub joint_of : (fields levers own other_levers : List ℕ) → Joint
joint_of fields levers own other_levers =
    record {
      column = column_of fields;
      bolts = bolts_of fields;
      face = first_face_of fields levers;
      other = second_face_of own other_levers;
    }

-- The fields of a column, its bolts and one face before the levers, in file order.
unfoldable pub fields_of : Column → Bolts → Face → List ℕ
fields_of column bolts face =
    let beam = face.beam in
    let plate = face.plate in
    let layout = face.layout in
    let welds = face.welds in
    let loads = face.loads in
    face.rows ∷ face.extended ∷ bolts.class ∷ bolts.diameter ∷ column.grade ∷ beam.grade ∷ plate.grade
    ∷ column.depth ∷ column.width ∷ column.flange ∷ column.web ∷ column.radius ∷ column.clear
    ∷ beam.depth ∷ beam.width ∷ beam.flange ∷ beam.web ∷ plate.width ∷ plate.thickness
    ∷ layout.gauge ∷ layout.edge ∷ layout.alpha ∷ welds.flange ∷ welds.web ∷ welds.length ∷ face.shear_rows
    ∷ stored_axial loads.axial ∷ loads.shear ∷ loads.moment ∷ column.end_distance ∷ []
