-- Distances about the bolts, in hundredths of a millimetre (rule 4.1).
-- A difference below 0 is 0 here: refusal 13 turns a joint down for either, and where it lets one pass no difference is below 0.
-- Assumes nothing.
use Rattle.std.specs.Prelude.{ℕ, ◌+◌, ◌-◌, ◌*◌, get_or}
use Rattle.joint.specs.declared.Column.{Column}
use Rattle.joint.specs.declared.Layout.{Layout}
use Rattle.joint.specs.declared.Face.{Face}
use Rattle.spacing.specs.declared.Spacing.{Spacing}

-- rule 11.5: the least that m and mx may be
abbrev pub least_distance : ℕ
least_distance = 500

-- and e
abbrev pub least_edge : ℕ
least_edge = 1000

-- rule 4.1: column m
abbrev pub column_m : Column → Layout → ℕ
column_m column layout = 5 * (layout.gauge - column.web) - 8 * column.radius

-- rule 4.1: plate m
abbrev pub plate_m : Face → ℕ
plate_m face = 5 * (face.layout.gauge - face.beam.web) - 8 * face.welds.web

-- rule 4.1: column e
abbrev pub column_edge : Column → Layout → ℕ
column_edge column layout = 5 * (column.width - layout.gauge)

-- rule 4.1: plate e
abbrev pub plate_edge : Face → ℕ
plate_edge face = 5 * (face.plate.width - face.layout.gauge)

-- rule 4.1: mx, from the lever of the extension row
abbrev pub extension_m : Face → ℕ
extension_m face = 5 * (2 * get_or face.levers 0 0 + face.beam.flange - 2 * face.beam.depth) - 8 * face.welds.flange

-- rule 1.3: s
abbrev pub rise : Face → ℕ → ℕ → ℕ
rise face i j = get_or face.levers i 0 - get_or face.levers j 0

-- all of a joint's
abbrev pub spacing_of : Column → Face → Spacing
spacing_of column face = record {
  column = column_m column face.layout;
  plate = plate_m face;
  column_edge = column_edge column face.layout;
  plate_edge = plate_edge face;
  extension = extension_m face;
}
