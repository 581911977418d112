-- What a face with no rows comes to (rule 2.4). The definitions are over any count of rows, 0 among them: this is what they give for it.
-- Assumes nothing.
use Rattle.std.specs.Prelude.{◌≡◌, ◌↔◌, ℕ, ◌*◌, Bool, true, List, [], replicate, leb}
use Rattle.joint.specs.Ranges.{row_counts}
use Rattle.joint.specs.declared.Column.{Column}
use Rattle.joint.specs.declared.Face.{Face}
use Rattle.strength.specs.declared.BoltStrengths.{BoltStrengths}
use Rattle.governing.specs.Cap.{newtons_of}
use Rattle.verdicts.specs.Bending.{carries}
use Rattle.verdicts.specs.Bolts.{idle_pair}
use Rattle.verdicts.specs.Welds.{web_weld_passes}
use Rattle.outcome.specs.declared.FaceResult.{FaceResult}
use Rattle.connection.specs.OneFace.{governing_of, cap_of, moment_of}
use Rattle.connection.specs.Demand.{CompetesFor, programs_list}

-- no force and Z 0: so bending by the loads alone, bolts by the shear rows, and a flange weld that has nothing to carry; the rest as ever
abbrev pub result_of_no_rows : (panel_counts : Bool) → Column → BoltStrengths → Face → FaceResult
result_of_no_rows panel_counts column bolt face = record {
  forces = replicate row_counts.high 0;
  sum = 0;
  newton_metres = 0;
  cap = newtons_of (cap_of panel_counts column face);
  check = governing_of panel_counts column face;
  verdicts = record {
    bending = carries face.loads face.beam 0;
    bolts = leb face.loads.shear (face.shear_rows * idle_pair bolt column face.plate);
    flange_weld = true;
    web_weld = web_weld_passes face;
  };
}

pub record WithNoRows (panel_counts : Bool) (column : Column) (bolt : BoltStrengths) (face : Face) (result : FaceResult) : Type 0 where
  pub comes_to : result ≡ result_of_no_rows panel_counts column bolt face
  -- its list is the empty one, whose Z is 0, and that is the only list that competes
  pub list : programs_list face result.forces ≡ []
  pub z : moment_of face [] ≡ 0
  pub alone : (other : List ℕ) → CompetesFor panel_counts column bolt face result.forces other ↔ (other ≡ [])
