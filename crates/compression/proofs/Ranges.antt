-- How large b and web bearing are for fields in range, and what the compression side asks of a face on its column. Assumes nothing.
use Prim.Native.Nat.{◌≤◌}
use Rattle.arithmetic.specs.Range.{Within}
use Rattle.arithmetic.proofs.Bounds.{exactly, ◌⊗◌, ◌⊕◌, ◌⊘◌}
use Rattle.joint.specs.InRange.{ColumnInRange, FaceInRange}
use Rattle.joint.specs.declared.Column.{Column}
use Rattle.joint.specs.declared.Beam.{Beam}
use Rattle.joint.specs.declared.Plate.{Plate}
use Rattle.joint.specs.declared.Welds.{Welds}
use Rattle.joint.specs.declared.Face.{Face}
use Rattle.strength.specs.Steel.{steel_strengths}
use Rattle.strength.specs.declared.SteelStrengths.{SteelStrengths}
use Rattle.strength.proofs.Ranges.{steel_in_range}
use Rattle.compression.specs.Compression.{bearing_length, web_bearing, resistances_of}
use Rattle.compression.specs.InRange.{bearing_lengths, most_bearing, PartsInRange, ColumnWebParts}

module _ (steel : SteelStrengths) (column : Column) (beam : Beam) (plate : Plate) (welds : Welds)
    (r : PartsInRange steel column beam plate welds) where
  length_range : Within bearing_lengths (bearing_length column beam plate welds)
  unfolding bearing_length
  length_range =
      r.beam.flange
      ⊕ exactly 2 ⊗ r.welds.flange
      ⊕ exactly 2 ⊗ r.plate.thickness
      ⊕ exactly 5 ⊗ (r.column.flange ⊕ r.column.radius)

  pub web_parts : ColumnWebParts (bearing_length column beam plate welds) steel.column column
  web_parts = record { bearing_length = length_range; strength = r.steel.column; column = r.column }

  pub bearing_le : (resistances_of steel column beam plate welds).bearing ≤ most_bearing
  unfolding resistances_of web_bearing
  bearing_le = (length_range ⊗ r.column.web ⊗ r.steel.column ⊘ 100).high

-- all that is asked of the parts, from the fields of a column and a face on it
pub parts_in_range : (column : Column) (face : Face) → ColumnInRange column → FaceInRange face
    → PartsInRange (steel_strengths column face.beam face.plate) column face.beam face.plate face.welds
parts_in_range column face c f = record {
  steel = steel_in_range column face.beam face.plate c f.beam f.plate;
  column = c;
  beam = f.beam;
  plate = f.plate;
  welds = f.welds;
}
