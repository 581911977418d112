-- The lines of the sheet (rules 12.2 to 12.4 and 12.6): what a face comes to, a work refusal, a read refusal.
-- Assumes nothing.
use Rattle.std.specs.Prelude.{ℕ, min, List, [], ◌∷◌, ◌++◌, map, Bool, true, false, cond, eqb, take}
use Rattle.governing.specs.declared.CompressionCheck.{CompressionCheck}
use Rattle.governing.specs.declared.CompressionCheck.TheVariants.{Flange, Bearing, Buckling, Panel}
use Rattle.outcome.specs.declared.FaceResult.{FaceResult}
use Rattle.outcome.specs.Outcome.{Outcome, PanelVerdict, NotAsked, Passes, Fails, Refusal}
use Rattle.items.specs.Digits.{decimal}
use Rattle.items.specs.Items.{Item, letter, spaced}

abbrev pub Line : Type 0
Line = List ℕ

-- A line ends with one line feed.
abbrev pub line_of : Item → List Item → Line
line_of first others = first ++ (spaced others ++ (10 ∷ []))

-- rule 12.2: F beam flange, B web bearing, K web buckling, S panel shear
abbrev pub check_letter : CompressionCheck → ℕ
check_letter (Flange force) = 70
check_letter (Bearing force) = 66
check_letter (Buckling force) = 75
check_letter (Panel force) = 83

-- rule 12.2: P passes, F fails
abbrev pub verdict_letter : Bool → ℕ
verdict_letter passes = cond passes 80 70

-- the governing check, then bending, bolts, flange weld, web weld
abbrev pub letters_of : FaceResult → List ℕ
letters_of result =
    check_letter result.check
    ∷ verdict_letter result.verdicts.bending
    ∷ verdict_letter result.verdicts.bolts
    ∷ verdict_letter result.verdicts.flange_weld
    ∷ verdict_letter result.verdicts.web_weld
    ∷ []

-- sum, newton metres, cap
abbrev pub figures_of : FaceResult → List ℕ
figures_of result = result.sum ∷ result.newton_metres ∷ result.cap ∷ []

-- the forces of the rows; there are eight, and no face has more rows than that
abbrev pub row_forces : (rows : ℕ) → List ℕ → List ℕ
row_forces rows forces = take (min rows 8) forces

-- rule 12.6: the panel's verdict is shown where it was asked: in an answer that is no refusal, where the joint has two faces
abbrev pub is_asked : PanelVerdict → Bool
is_asked NotAsked = false
is_asked Passes = true
is_asked Fails = true

-- P or F; 0 is no letter, and isn't shown
abbrev pub panel_letter : PanelVerdict → ℕ
panel_letter NotAsked = 0
panel_letter Passes = verdict_letter true
panel_letter Fails = verdict_letter false

abbrev pub shown_letters : FaceResult → PanelVerdict → List ℕ
shown_letters result panel = letters_of result ++ cond (is_asked panel) (panel_letter panel ∷ []) []

-- rules 12.2 and 12.6: joint, rows, forces, figures and letters
unfoldable pub result_line : (number rows : ℕ) → FaceResult → PanelVerdict → Line
result_line number rows result panel =
    line_of (decimal number)
    (map decimal (rows ∷ row_forces rows result.forces) ++ (map decimal (figures_of result) ++ map letter (shown_letters result panel)))

-- rules 12.3 and 12.4: joint, R, the refusal's number, and whatever else it shows
unfoldable pub refusal_line : (number : ℕ) (items : List ℕ) → Line
refusal_line number items = line_of (decimal number) (letter 82 ∷ map decimal items)

-- rules 12.3 and 12.6: the number, for 10 the field, and last the face, of a joint that has two
unfoldable pub refusal_items : Refusal → List ℕ
refusal_items refusal =
    refusal.number ∷ cond (eqb refusal.number 10) (refusal.field ∷ []) []
    ++ cond (eqb refusal.face 0) [] (refusal.face ∷ [])

-- rule 12.6: a line for each face
abbrev pub face_lines : (number rows other_rows : ℕ) → Outcome → List Line
face_lines number rows other_rows outcome =
    let panel = outcome.panel in
    result_line number rows outcome.result panel ∷ cond (is_asked panel) (result_line number other_rows outcome.other panel ∷ []) []

-- What the sheet prints of a joint that was read, with the rows of its faces and what working it came to.
unfoldable pub outcome_lines : (number rows other_rows : ℕ) → Outcome → List Line
outcome_lines number rows other_rows outcome =
    cond (eqb outcome.refusal.number 0)
    (face_lines number rows other_rows outcome)
    (refusal_line number (refusal_items outcome.refusal) ∷ [])

-- lines one after another
unfoldable pub concatenated : List Line → List ℕ
concatenated [] = []
concatenated (line ∷ lines) = line ++ concatenated lines
