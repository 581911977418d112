-- What of a face's group limits is the same for every group, worked once, and a group's limit from it.
-- Each figure is a factor of the rules' (`Limits`), the lesser of two, or tells modes 1 and 2 apart; proofs/Worked.antt has the law that the
-- limit comes out as they say.
-- Assumes nothing.
use Rattle.std.specs.Prelude.{ℕ, ◌-◌, ◌*◌, ◌/◌, min, cond, List, ltb, eqb, get_or}
use Rattle.joint.specs.declared.Column.{Column}
use Rattle.joint.specs.declared.Face.{Face}
use Rattle.strength.specs.Steel.{steel_strength}
use Rattle.spacing.specs.Spacing.{column_m, plate_m, column_edge, plate_edge}
use Rattle.stubs.specs.Bending.{effective_edge}
use Rattle.stubs.specs.Worked.{stub_of, lengths_of, length_by, bending_by, web_by}
use Rattle.sharing.specs.Groups.{Table}
use Rattle.tension.specs.Limits.{rows_in, extension_bending}
use Rattle.tension.specs.declared.Dimensions.{Dimensions}

unfoldable pub dimensions_of : Column → Face → (W : ℕ) → Dimensions
dimensions_of column face W =
    let g = face.layout.gauge in
    let mc = column_m column face.layout in
    let mp = plate_m face in
    let ec = column_edge column face.layout in
    let ep = plate_edge face in
    let yc = steel_strength column.grade column.flange in
    let yb = steel_strength face.beam.grade face.beam.flange in
    let yp = steel_strength face.plate.grade face.plate.thickness in
    record {
      column = stub_of mc (effective_edge ec ep mc) column.flange yc W;
      plate = stub_of mp (effective_edge ec ep mp) face.plate.thickness yp W;
      column_lengths = lengths_of mc ec;
      plate_lengths = lengths_of mp ep;
      near_flange = face.layout.alpha * mp / 100;
      extension_limit = cond (eqb face.extended 0) 0 (extension_bending face W);
      web_length = 173 * g;
      column_web = column.web * yc;
      lesser_web = min (column.web * yc) (face.beam.web * yb);
      pair = W;
      first = face.extended;
    }

unfoldable pub column_by : Dimensions → (k s : ℕ) → ℕ
column_by d k s =
    bending_by d.column d.pair k (length_by d.column_lengths.circular d.column_lengths.side s)

-- the plate's pattern of side yielding for a group that begins at row i
abbrev pub plate_side_by : Dimensions → (i : ℕ) → ℕ
plate_side_by d i = cond (eqb i d.first) d.near_flange d.plate_lengths.side

-- the web of a group that begins there: the lesser of two where the beam's limits too
abbrev pub web_for : Dimensions → (i : ℕ) → ℕ
web_for d i = cond (ltb d.first i) d.lesser_web d.column_web

-- a limit with the plate's, where there is one
unfoldable pub plate_by : Dimensions → (i k s limit : ℕ) → ℕ
plate_by d i k s limit =
    cond (ltb i d.first)
    (cond (eqb k 1) (min limit d.extension_limit) limit)
    (min limit (bending_by d.plate d.pair k (length_by d.plate_lengths.circular (plate_side_by d i) s)))

-- and with the webs'
unfoldable pub webs_by : Dimensions → (i s limit : ℕ) → ℕ
webs_by d i s limit = min limit (web_by d.web_length s (web_for d i))

-- the limit of the group of k rows from row i on, whose rise is s
unfoldable pub limit_by : Dimensions → (i k s : ℕ) → ℕ
limit_by d i k s = webs_by d i s (plate_by d i k s (column_by d k s))

-- the limit of every group, from the rows' levers
abbrev pub limits_by : Dimensions → (levers : List ℕ) → Table
limits_by d levers i j = limit_by d i (rows_in i j) (get_or levers i 0 - get_or levers j 0)
