-- Checking fields one after the other finds the first that fails: what is found of a list by its checks and by its parts, where the first
-- that finds a field answers for all. Assumes nothing.
use mathlib.Core.Path.{◌≡◌, refl}
use mathlib.Core.Bool.{Bool, true, false, cond}
use mathlib.Core.List.{List, [], ◌∷◌, ◌++◌}
use Prim.Native.Nat.{ℕ, ◌+◌, ◌<◌}
use native.Mathlib.Numerals.{add-one}
use native.Mathlib.Omega.{arith}
use lib.ListN.{length, get_or, drop}
use lib.Seq.{drop-cons, drop-length}
use Rattle.std.specs.Prelude.{Ok, Err, Option}
use Rattle.arithmetic.specs.Checks.{Check, first_failing}
use Rattle.arithmetic.specs.Range.{within}
use Rattle.joint.specs.Ranges.{levers}
use Rattle.joint.specs.Fields.{head_checks, grade_checks, column_checks, beam_checks, plate_checks, weld_checks, load_checks, lever_checks}
use Rattle.joint.specs.Fields.{fixed_checks, field_checks, field_check, FieldCheck, outside, found_by}
use Rattle.joint.specs.declared.Column.{Column}
use Rattle.joint.specs.declared.Bolts.{Bolts}
use Rattle.joint.specs.declared.Face.{Face}

pub apart : (number : ℕ) → Ok tt ≡ outside number → ⊥
apart number e = let z : ◌≡◌ {A = ℕ} 0 1 = cc in omega arith

-- what one part finds, and else what the next does
infixr 20 ◌then◌
abbrev pub ◌then◌ : FieldCheck → FieldCheck → FieldCheck
(Ok done) then next = next
(Err found) then next = Err found

then_assoc : (a b c : FieldCheck) → ((a then b) then c) ≡ (a then b then c)
then_assoc (Ok done) b c = refl
then_assoc (Err found) b c = refl

by_parts : (first second : List Check) → found_by (first ++ second) ≡ (found_by first then found_by second)
unfolding first_failing
by_parts [] second = refl
by_parts ((number, true) ∷ first) second = by_parts first second
by_parts ((number, false) ∷ first) second = refl

pub one_check : (number : ℕ) (test : Bool) → found_by ((number, test) ∷ []) ≡ cond test (Ok tt) (outside number)
unfolding first_failing
one_check number test = refl

pub check_by_check : (check next : Check) (checks : List Check)
    → found_by (check ∷ next ∷ checks) ≡ (found_by (check ∷ []) then found_by (next ∷ checks))
check_by_check check next checks = by_parts (check ∷ []) (next ∷ checks)

-- the parts of a column, its bolts and one face
pub part_by_part : (column : Column) (bolts : Bolts) (area : Option ℕ) (face : Face)
    → field_check column bolts area face
    ≡ (found_by (head_checks face.rows face.extended bolts.class area)
    then found_by (grade_checks column.grade face.beam.grade face.plate.grade)
    then found_by (column_checks column)
    then found_by (beam_checks face.beam)
    then found_by (plate_checks face.extended face.plate face.layout)
    then found_by (weld_checks face.welds face.shear_rows)
    then found_by (load_checks face.loads column.end_distance)
    then found_by (lever_checks face.rows 0 face.levers))
unfolding field_check field_checks fixed_checks
part_by_part column bolts area face = simp (by_parts, then_assoc) refl

-- the levers from a row on: that of the row, and those below it
module _ (rows row : ℕ) (hs : List ℕ) where
  pub next_lever : row < length hs
      → found_by (lever_checks rows row (drop row hs))
      ≡ (found_by ((31 + row, within (levers rows row) (get_or hs row 0)) ∷ []) then found_by (lever_checks rows (row + 1) (drop (row + 1) hs)))
  unfolding lever_checks
  next_lever h = rw (add-one, drop-cons hs row 0) (by_parts ((31 + row, within (levers rows row) (get_or hs row 0)) ∷ []) _)

  pub no_lever : row ≡ length hs → Ok tt ≡ found_by (lever_checks rows row (drop row hs))
  unfolding lever_checks first_failing
  no_lever e = rw (e, drop-length)
