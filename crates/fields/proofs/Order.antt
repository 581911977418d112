-- A joint has the fields that it was made of, and is made of its fields, on both faces: place by place, and field 27 by its own law.
-- Assumes nothing.
use Prim.Native.Nat.{ℕ, zero, suc}
use mathlib.Core.Path.{◌≡◌, refl, ap}
use mathlib.Core.List.{List, [], ◌∷◌}
use native.Mathlib.Omega.{arith}
use lib.ListN.{length, get_or}
use Rattle.joint.specs.declared.Bolts.{Bolts}
use Rattle.joint.specs.declared.Column.{Column}
use Rattle.joint.specs.declared.Joint.{Joint}
use Rattle.fields.specs.Fields.{field_count, column_of, bolts_of, first_face_of, own_count, own_of, second_face_of, joint_of, fields_of}
use Rattle.fields.proofs.Axial.{axial_stored, stored_axial-axial_of}

tabulate : ℕ → (ℕ → ℕ) → List ℕ
tabulate zero f = []
tabulate (suc n) f = f 0 ∷ tabulate n (λ k. f (suc k))

tabulate-get_or : (n : ℕ) (xs : List ℕ) → length xs ≡ n → tabulate n (λ k. get_or xs k 0) ≡ xs
unfolding tabulate
tabulate-get_or zero [] long = refl
tabulate-get_or zero (x ∷ xs) long = absurd (omega arith)
tabulate-get_or (suc n) [] long = absurd (omega arith)
tabulate-get_or (suc n) (x ∷ xs) long = ap (λ (l : List ℕ). x ∷ l) (tabulate-get_or n xs (omega arith))

-- A face, with the column and bolts that its fields stand among, has the fields that it was made of.
pub fields_face : (fields levers : List ℕ) → length fields ≡ field_count
    → fields_of (column_of fields) (bolts_of fields) (first_face_of fields levers) ≡ fields
unfolding fields_of tabulate
fields_face fields levers long = rw stored_axial-axial_of (tabulate-get_or field_count fields long)

-- A second face has of its own what it was made of, whatever column and bolts it stands with.
pub own_face : (column : Column) (bolts : Bolts) (own levers : List ℕ) → length own ≡ own_count
    → own_of (fields_of column bolts (second_face_of own levers)) ≡ own
unfolding fields_of own_of tabulate
own_face column bolts own levers long = rw stored_axial-axial_of (tabulate-get_or own_count own long)

-- A joint is made of its fields, and of what its second face has of its own.
pub joint_fields : (joint : Joint)
    → joint_of (fields_of joint.column joint.bolts joint.face) joint.face.levers
    (own_of (fields_of joint.column joint.bolts joint.other)) joint.other.levers
    ≡ joint
unfolding fields_of own_of joint_of
joint_fields joint = rw (axial_stored joint.face.loads.axial, axial_stored joint.other.loads.axial)
