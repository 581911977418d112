-- Demand 3: the row forces of a face are the best that its limits, its cap and its triangle allow. Assumes nothing.
use Rattle.std.specs.Prelude.{◌≡◌, ◌↔◌, Bool, false, ℕ, ◌≤◌, List, take, pos, ◌≤ℤ◌, Option}
use Rattle.joint.specs.declared.Bolts.{Bolts}
use Rattle.joint.specs.declared.Column.{Column}
use Rattle.joint.specs.declared.Face.{Face}
use Rattle.strength.specs.declared.BoltStrengths.{BoltStrengths}
use Rattle.sharing.specs.Groups.{total}
use Rattle.sharing.specs.Sharing.{Competes}
use Rattle.sharing.specs.Triangle.{KeepsTriangle}
use Rattle.outcome.specs.declared.FaceResult.{FaceResult}
use Rattle.connection.specs.OneFace.{bolt_of, rows_of, limit_of, cap_of, triangle_on, moment_of, carries_of}

-- the program's list: of an answer's eight places the first, one for each row
abbrev pub programs_list : Face → (places : List ℕ) → List ℕ
programs_list face places = take (rows_of face) places

-- rule 7.1: a list competes with the program's answer when it has a whole number of newtons for each row and keeps every group's limit, before
-- any lowering, the cap and, where the rows go by the triangle, its limits, worked from the force that the program's list has for the
-- reference row
pub record CompetesFor (panel_counts : Bool) (column : Column) (bolt : BoltStrengths) (face : Face) (places forces : List ℕ) : Type 0 where
  pub limits : Competes (limit_of column bolt face) (rows_of face) forces
  pub capped : pos (total forces) ≤ℤ cap_of panel_counts column face
  pub triangle : KeepsTriangle (triangle_on column bolt face) (rows_of face) (programs_list face places) forces

-- Rule 7.2, demand 3 of an answer for a face: its eight places for forces, and its verdict on bending.
pub record Demand3 (panel_counts : Bool) (column : Column) (bolt : BoltStrengths) (face : Face) (places : List ℕ) (bending : Bool)
    : Type 0 where
  -- the program's list competes
  pub competes : CompetesFor panel_counts column bolt face places (programs_list face places)
  -- for whatever list competes, the sum from the top row down to any row is at most the program's
  pub sums : (other : List ℕ) → CompetesFor panel_counts column bolt face places other → (row : ℕ)
      → total (take row other) ≤ total (take row (programs_list face places))
  -- the list equals the program's exactly when the unrounded moments Z are equal
  pub same : (other : List ℕ) → CompetesFor panel_counts column bolt face places other
      → (other ≡ programs_list face places) ↔ (moment_of face other ≡ moment_of face (programs_list face places))
  -- the face fails in bending exactly when no competing list carries the design moment with the design axial force
  pub fails_in_bending : (bending ≡ false)
      ↔ ((other : List ℕ) → CompetesFor panel_counts column bolt face places other → carries_of face other ≡ false)

-- Demand 3 of what a face comes to: its forces and its verdict on bending.
abbrev pub Demand3For : (panel_counts : Bool) → Column → Bolts → Option ℕ → Face → FaceResult → Type 0
Demand3For panel_counts column bolts area face result =
    Demand3 panel_counts column (bolt_of bolts area) face result.forces result.verdicts.bending
