-- What a face and a joint come to, with a refusal as its number (rules 11), and which of them an answer of Work says. Assumes nothing.
use Rattle.std.specs.Prelude.{ℕ, false, cond, replicate, Option, Some, None, Result, Ok, Err}
use Rattle.joint.specs.Ranges.{row_counts}
use Rattle.governing.specs.declared.CompressionCheck.TheVariants.{Flange}
use Rattle.outcome.specs.declared.FaceRefusal.{FaceRefusal}
use Rattle.outcome.specs.declared.FaceRefusal.TheVariants.{OutOfRange, LeversDontFall, RowsTooClose, RowOutOfPlace, TooTight, NoCap}
use Rattle.outcome.specs.declared.FaceResult.{FaceResult}
use Rattle.outcome.specs.declared.JointRefusal.{JointRefusal}
use Rattle.outcome.specs.declared.RefusedFace.{RefusedFace}
use Rattle.outcome.specs.declared.RefusedFace.TheVariants.{Only, First, Second}
use Rattle.outcome.specs.declared.SecondFace.{SecondFace}
use Rattle.outcome.specs.declared.Worked.{Worked}

-- what a joint was refused for
pub record Refusal : Type 0 where
  -- the refusal's number, 0 when nothing is refused
  pub number : ℕ
  -- the first field out of range, with refusal 10; else 0
  pub field : ℕ
  -- 1 or 2, the face of a joint that has two; else 0
  pub face : ℕ

-- what one face comes to where it is worked alone
pub record FaceOutcome : Type 0 where
  pub number : ℕ
  pub field : ℕ
  pub result : FaceResult

-- whether the web panel of a column with a beam on both faces carries what they bring to it; not asked where there is one face, whose cap
-- panel shear is in, nor in a refusal
pub data PanelVerdict : Type 0 where
  NotAsked : PanelVerdict
  Passes : PanelVerdict
  Fails : PanelVerdict

-- what Work answers: of the first face, and of the second, as in a refusal where there is none
pub record Outcome : Type 0 where
  pub refusal : Refusal
  pub result : FaceResult
  pub other : FaceResult
  pub panel : PanelVerdict

-- rule 11.8: in a refusal every figure is 0, the check is F with 0, the verdicts are no; and by rule 11.1 so of a second face that there
-- isn't
abbrev pub no_result : FaceResult
no_result = record {
  forces = replicate row_counts.high 0;
  sum = 0;
  newton_metres = 0;
  cap = 0;
  check = Flange 0;
  verdicts = record { bending = false; bolts = false; flange_weld = false; web_weld = false };
}

-- ---- the numbers of refusals, fields and faces

abbrev pub number_of : FaceRefusal → ℕ
number_of (OutOfRange field) = 10
number_of LeversDontFall = 11
number_of RowsTooClose = 19
number_of RowOutOfPlace = 12
number_of TooTight = 13
number_of NoCap = 15

abbrev pub field_of_refusal : FaceRefusal → ℕ
field_of_refusal (OutOfRange field) = field
field_of_refusal LeversDontFall = 0
field_of_refusal RowsTooClose = 0
field_of_refusal RowOutOfPlace = 0
field_of_refusal TooTight = 0
field_of_refusal NoCap = 0

-- of a joint with one face no face is told
abbrev pub face_number : RefusedFace → ℕ
face_number Only = 0
face_number First = 1
face_number Second = 2

-- ---- what an answer says

abbrev pub face_meaning : Result FaceResult FaceRefusal → FaceOutcome
face_meaning (Ok result) = record { number = 0; field = 0; result = result }
face_meaning (Err refusal) = record { number = number_of refusal; field = field_of_refusal refusal; result = no_result }

abbrev pub second_result : Option SecondFace → FaceResult
second_result None = no_result
second_result (Some second) = second.result

abbrev pub second_panel : Option SecondFace → PanelVerdict
second_panel None = NotAsked
second_panel (Some second) = cond second.panel_passes Passes Fails

abbrev pub outcome_meaning : Result Worked JointRefusal → Outcome
outcome_meaning (Ok worked) = record {
  refusal = record { number = 0; field = 0; face = 0 };
  result = worked.result;
  other = second_result worked.second;
  panel = second_panel worked.second;
}
outcome_meaning (Err refused) = record {
  refusal = record {
    number = number_of refused.refusal;
    field = field_of_refusal refused.refusal;
    face = face_number refused.face;
  };
  result = no_result;
  other = no_result;
  panel = NotAsked;
}
