-- Fields that are all in their ranges (rule 2.1), part by part and by name: what every crate above requires of them.
-- Assumes nothing.
use Rattle.std.specs.Prelude.{ℕ, ◌<◌, T, nat_abs, length, get_or, Option}
use Rattle.arithmetic.specs.Range.{Within}
use Rattle.arithmetic.specs.Table.{one_of}
use Rattle.bolttable.specs.Area.{is_listed}
use Rattle.joint.specs.Ranges.{row_counts, flags, classes, grades, depths, widths, flanges, webs, radii, clears}
use Rattle.joint.specs.Ranges.{plate_widths, thicknesses, gauges, edges, alphas, legs, weld_lengths, shear_row_counts}
use Rattle.joint.specs.Ranges.{loads, end_distances, levers}
use Rattle.joint.specs.declared.Column.{Column}
use Rattle.joint.specs.declared.Bolts.{Bolts}
use Rattle.joint.specs.declared.Beam.{Beam}
use Rattle.joint.specs.declared.Plate.{Plate}
use Rattle.joint.specs.declared.Layout.{Layout}
use Rattle.joint.specs.declared.Welds.{Welds}
use Rattle.joint.specs.declared.Face.{Face}
use Rattle.joint.specs.declared.Loads.{Loads}

pub record ColumnInRange (column : Column) : Type 0 where
  pub grade : T (one_of grades column.grade)
  pub depth : Within depths column.depth
  pub width : Within widths column.width
  pub flange : Within flanges column.flange
  pub web : Within webs column.web
  pub radius : Within radii column.radius
  pub clear : Within clears column.clear
  pub end_distance : Within end_distances column.end_distance

-- with the area that the table in force lists for the diameter
pub record BoltsInRange (bolts : Bolts) (area : Option ℕ) : Type 0 where
  pub class : T (one_of classes bolts.class)
  pub diameter : T (is_listed area)

pub record BeamInRange (beam : Beam) : Type 0 where
  pub grade : T (one_of grades beam.grade)
  pub depth : Within depths beam.depth
  pub width : Within widths beam.width
  pub flange : Within flanges beam.flange
  pub web : Within webs beam.web

pub record PlateInRange (plate : Plate) : Type 0 where
  pub grade : T (one_of grades plate.grade)
  pub width : Within plate_widths plate.width
  pub thickness : Within thicknesses plate.thickness

pub record LayoutInRange (extended : ℕ) (layout : Layout) : Type 0 where
  pub gauge : Within gauges layout.gauge
  pub edge : Within (edges extended) layout.edge
  pub alpha : Within alphas layout.alpha

pub record WeldsInRange (welds : Welds) : Type 0 where
  pub flange : Within legs welds.flange
  pub web : Within legs welds.web
  pub web_length : Within weld_lengths welds.length

pub record LoadsInRange (forces : Loads) : Type 0 where
  pub axial : Within loads (nat_abs forces.axial)
  pub shear : Within loads forces.shear
  pub moment : Within loads forces.moment

pub record FaceInRange (face : Face) : Type 0 where
  pub rows : Within row_counts face.rows
  pub extended : Within (flags face.rows) face.extended
  pub beam : BeamInRange face.beam
  pub plate : PlateInRange face.plate
  pub layout : LayoutInRange face.extended face.layout
  pub welds : WeldsInRange face.welds
  pub shear_rows : Within shear_row_counts face.shear_rows
  pub loads : LoadsInRange face.loads
  -- rows count from 0; past row n the range is 0 alone
  pub lever : (row : ℕ) → row < length face.levers → Within (levers face.rows row) (get_or face.levers row 0)

-- a column, its bolts and one face of it
pub record InRange (c : Column) (b : Bolts) (a : Option ℕ) (f : Face) : Type 0 where
  pub column : ColumnInRange c
  pub bolts : BoltsInRange b a
  pub face : FaceInRange f
