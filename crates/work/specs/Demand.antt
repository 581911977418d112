-- Demand 3 of Work's answer (rule 7.2): face by face, each under its own cap. Assumes nothing.
use Rattle.std.specs.Prelude.{◌≡◌, true, false, Option, ℕ}
use Rattle.bolttable.specs.Area.{area_of}
use Rattle.bolttable.specs.declared.BoltTable.{BoltTable}
use Rattle.joint.specs.Faces.{two_faced, first_face}
use Rattle.joint.specs.declared.Bolts.{Bolts}
use Rattle.joint.specs.declared.Column.{Column}
use Rattle.joint.specs.declared.Face.{Face}
use Rattle.joint.specs.declared.Joint.{Joint}
use Rattle.connection.specs.Demand.{Demand3For}
use Rattle.outcome.specs.Outcome.{Outcome}

-- of two faces: panel shear is in neither's cap
pub record FacesDemand3 (column : Column) (bolts : Bolts) (area : Option ℕ) (first second : Face) (outcome : Outcome) : Type 0 where
  pub of_first : Demand3For false column bolts area first outcome.result
  pub of_second : Demand3For false column bolts area second outcome.other

-- of a joint, which has one face or two, by its bolts' area: panel shear is in the cap of one face alone
pub record Demand3With (area : Option ℕ) (joint : Joint) (outcome : Outcome) : Type 0 where
  pub one_face : two_faced joint.face.rows ≡ false
      → Demand3For true joint.column joint.bolts area (first_face joint.face) outcome.result
  pub two_faces : two_faced joint.face.rows ≡ true
      → FacesDemand3 joint.column joint.bolts area (first_face joint.face) joint.other outcome

-- of a joint with a bolt table in force
abbrev pub Demand3Of : BoltTable → Joint → Outcome → Type 0
Demand3Of table joint outcome = Demand3With (area_of table joint.bolts.diameter) joint outcome
