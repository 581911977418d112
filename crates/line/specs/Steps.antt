-- What each step of the code hands over, of an answer as Work gives it. No rule says more by it. Assumes nothing.
use Rattle.std.specs.Prelude.{ℕ, List, [], ◌∷◌, ◌++◌, map, cond, eqb}
use Rattle.outcome.specs.declared.FaceRefusal.{FaceRefusal}
use Rattle.outcome.specs.declared.RefusedFace.{RefusedFace}
use Rattle.outcome.specs.Outcome.{number_of, field_of_refusal, face_number}
use Rattle.items.specs.Digits.{decimal}
use Rattle.items.specs.Items.{letter, spaced}

-- the joint's number, R, and the refusal's number
abbrev pub refusal_begun : (number refusal : ℕ) → List ℕ
refusal_begun number refusal = decimal number ++ (spaced (letter 82 ∷ []) ++ spaced (map decimal (refusal ∷ [])))

-- the field, for 10 alone
abbrev pub field_items : FaceRefusal → List ℕ
field_items refusal = cond (eqb (number_of refusal) 10) (field_of_refusal refusal ∷ []) []

-- the face, of a joint that has two
abbrev pub face_items : RefusedFace → List ℕ
face_items face = cond (eqb (face_number face) 0) [] (face_number face ∷ [])
