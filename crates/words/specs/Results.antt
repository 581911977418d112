-- What a joint comes to (rule 13.3), as words: for each face eight forces, sum, newton metres, cap, check, governing force and four
-- verdicts, and last the panel's. Assumes nothing.
use Rattle.std.specs.Prelude.{ℕ, ◌+◌, ◌*◌, List, [], ◌∷◌, ◌++◌, Bool, cond}
use Rattle.governing.specs.declared.CompressionCheck.{CompressionCheck}
use Rattle.governing.specs.declared.CompressionCheck.TheVariants.{Flange, Bearing, Buckling, Panel}
use Rattle.governing.specs.Governing.{force_of}
use Rattle.outcome.specs.declared.FaceResult.{FaceResult}
use Rattle.outcome.specs.Outcome.{Outcome, PanelVerdict, NotAsked, Passes, Fails}

-- how many words come after the forces, how many a face has with them, and how many a joint has
abbrev pub figure_word_count : ℕ
figure_word_count = 9

abbrev pub face_word_count : ℕ
face_word_count = 8 + figure_word_count

abbrev pub outcome_word_count : ℕ
outcome_word_count = 2 * face_word_count + 1

-- F, B, K, S in their order
abbrev pub check_number : CompressionCheck → ℕ
check_number (Flange force) = 0
check_number (Bearing force) = 1
check_number (Buckling force) = 2
check_number (Panel force) = 3

-- 1 where the face passes
abbrev pub flag : Bool → ℕ
flag passes = cond passes 1 0

-- the words after the forces
unfoldable pub figure_words : FaceResult → List ℕ
figure_words result =
    let verdicts = result.verdicts in
    result.sum ∷ result.newton_metres ∷ result.cap ∷ check_number result.check ∷ force_of result.check
    ∷ flag verdicts.bending ∷ flag verdicts.bolts ∷ flag verdicts.flange_weld ∷ flag verdicts.web_weld ∷ []

abbrev pub result_words : FaceResult → List ℕ
result_words result = result.forces ++ figure_words result

-- 1 where the panel passes; where there is one face it isn't asked
abbrev pub panel_flag : PanelVerdict → ℕ
panel_flag NotAsked = 0
panel_flag Passes = 1
panel_flag Fails = 0

-- the words of an outcome
abbrev pub outcome_words : Outcome → List ℕ
outcome_words outcome = (result_words outcome.result ++ result_words outcome.other) ++ (panel_flag outcome.panel ∷ [])
