-- What the steps of working a face hand on and rely on: nothing here states a rule. Assumes nothing.
use Rattle.std.specs.Prelude.{◌≡◌, Bool, ℕ, ◌≤◌, List, length, get_or, take, Result, Ok, Err, ⊤}
use Rattle.joint.specs.Places.{eight_places}
use Rattle.joint.specs.InRange.{ColumnInRange, FaceInRange}
use Rattle.joint.specs.Ranges.{row_counts}
use Rattle.joint.specs.declared.Column.{Column}
use Rattle.joint.specs.declared.Face.{Face}
use Rattle.sharing.specs.Groups.{most_limit, with_cap}
use Rattle.sharing.specs.Sharing.{shared}
use Rattle.sharing.specs.Triangle.{limits_in}
use Rattle.strength.specs.InRange.{BoltInRange}
use Rattle.strength.specs.declared.BoltStrengths.{BoltStrengths}
use Rattle.strength.specs.declared.SteelStrengths.{SteelStrengths}
use Rattle.spacing.specs.Spacing.{spacing_of}
use Rattle.spacing.specs.declared.Spacing.{Spacing}
use Rattle.governing.specs.Cap.{newtons_of}
use Rattle.governing.specs.declared.CompressionCheck.{CompressionCheck}
use Rattle.verdicts.specs.Asked.{most_moment}
use Rattle.verdicts.specs.Tally.{tally_of}
use Rattle.verdicts.specs.declared.Tally.{Tally}
use Rattle.outcome.specs.Outcome.{FaceOutcome, face_meaning}
use Rattle.outcome.specs.declared.FaceRefusal.{FaceRefusal}
use Rattle.connection.specs.OneFace.{rows_of, levers_of, limit_of, steel_of, governing_of, cap_of, triangle_on}

-- What an admission comes to, where `outcome` is what a face that is admitted comes to.
abbrev pub admitted_to : FaceOutcome → Result ⊤ FaceRefusal → FaceOutcome
admitted_to outcome (Ok passed) = outcome
admitted_to outcome (Err refusal) = face_meaning (Err refusal)

-- A face in range on its column, with the figures of its bolts, the distances about them and its steel strengths.
pub record AtWork (c : Column) (b : BoltStrengths) (f : Face) (spacing : Spacing) (steel : SteelStrengths) : Type 0 where
  pub column : ColumnInRange c
  pub bolt : BoltInRange b
  pub face : FaceInRange f
  -- which the type says where the face isn't behind a reference
  pub eight_levers : length f.levers ≡ row_counts.high
  pub distances : spacing ≡ spacing_of c f
  pub strengths : steel ≡ steel_of c f

-- The forces of a face's rows under the limits of the groups, this cap and the triangle's limits, in their eight places.
abbrev pub places_under : Column → BoltStrengths → Face → (cap : ℕ) → List ℕ
places_under column bolt face cap =
    let limit = with_cap (limit_of column bolt face) (rows_of face) cap in
    eight_places (shared (limits_in (triangle_on column bolt face) limit (rows_of face)) (rows_of face))

-- The governing check of a face and its cap.
pub record FaceCap (panel_counts : Bool) (c : Column) (f : Face) (check : CompressionCheck) (cap : ℕ) : Type 0 where
  pub governs : check ≡ governing_of panel_counts c f
  pub newtons : cap ≡ newtons_of (cap_of panel_counts c f)

-- Forces for a face's rows in their eight places, none so large that a sum could not be held, and what they come to.
pub record Tallied (f : Face) (forces : List ℕ) (tally : Tally) : Type 0 where
  pub rows : length (take (rows_of f) forces) ≡ rows_of f
  pub places : forces ≡ eight_places (take (rows_of f) forces)
  pub bounded : (k : ℕ) → get_or forces k 0 ≤ most_limit
  pub tallied : tally ≡ tally_of (levers_of f) (take (rows_of f) forces)
  pub moment : tally.moment ≤ most_moment
