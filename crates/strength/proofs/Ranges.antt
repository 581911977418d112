-- The least and the greatest of each strength: a test computed over each table, carried to the entry that a joint's field picks.
-- Assumes nothing.
use Rattle.std.specs.Prelude.{Option}
use mathlib.Core.Bool.{Bool, true, false, ◌&&◌, ◌||◌, cond}
use mathlib.Core.List.{List, [], ◌∷◌}
use Prim.Native.Nat.{ℕ, ◌≤◌}
use native.Mathlib.Omega.{arith}
use lib.Dec.{T, eqb, leb, le→leb}
use mir.Facts.{yes_and}
use Rattle.arithmetic.specs.Range.{Range, Within, within, ◌to◌}
use Rattle.arithmetic.specs.Table.{one_of, lookup, up_to, any}
use Rattle.arithmetic.proofs.Bounds.{exactly, ◌⊗◌, ◌⊘◌, within_yes}
use Rattle.arithmetic.proofs.Table.{each, of_found, of_any}
use Rattle.bolttable.specs.Area.{area_number}
use Rattle.bolttable.specs.InRange.{AreaInRange}
use Rattle.joint.specs.Ranges.{classes, grades}
use Rattle.joint.specs.InRange.{ColumnInRange, BoltsInRange, BeamInRange, PlateInRange}
use Rattle.joint.specs.declared.Column.{Column}
use Rattle.joint.specs.declared.Bolts.{Bolts}
use Rattle.joint.specs.declared.Beam.{Beam}
use Rattle.joint.specs.declared.Plate.{Plate}
use Rattle.strength.specs.Steel.{bands, steel_strength, steel_strengths, either_is_275, weld_strength}
use Rattle.strength.specs.Bolt.{bolt_tension, bolt_shear, bolt_bearing, bolt_ultimate, pair_tension, pair_shear, bolt_strengths}
use Rattle.strength.specs.InRange.{
  yield_strengths,
  bolt_bearings,
  ultimate_strengths,
  weld_strengths,
  SteelInRange,
  BoltInRange,
}

-- a table's range holds at each of its keys
module _ (range : Range) (keys values : List ℕ) (t : T (each (within range) keys values)) (key : ℕ) where
  by_key : T (one_of keys key) → Within range (lookup keys values key)
  by_key h = within_yes range (lookup keys values key) (of_found (within range) (eqb key) keys values t h)

  -- and, where it has 0, at any number
  by_any : T (within range 0) → Within range (lookup keys values key)
  by_any z = within_yes range (lookup keys values key) (of_any (within range) (eqb key) keys values t z)

-- what a class has at the most, in range or not
pub tension_most : (class : ℕ) → Within (0 to 700) (bolt_tension class)
unfolding bolt_tension
tension_most class = by_any (0 to 700) classes (240 ∷ 560 ∷ 700 ∷ []) tt class tt

pub shear_most : (class : ℕ) → Within (0 to 400) (bolt_shear class)
unfolding bolt_shear
shear_most class = by_any (0 to 400) classes (160 ∷ 375 ∷ 400 ∷ []) tt class tt

pub bolt_in_range : (bolts : Bolts) (area : Option ℕ) → BoltsInRange bolts area → AreaInRange bolts.diameter area
    → BoltInRange (bolt_strengths bolts (area_number area))
unfolding pair_tension pair_shear bolt_bearing bolt_ultimate
bolt_in_range bolts area r a = record {
  diameter = a.listed r.diameter;
  pair_tension = exactly 2 ⊗ a.most ⊗ tension_most bolts.class ⊘ 10;
  pair_shear = exactly 2 ⊗ a.most ⊗ shear_most bolts.class ⊘ 10;
  bearing = by_key bolt_bearings classes (460 ∷ 1000 ∷ 1300 ∷ []) tt bolts.class r.class;
  ultimate = by_key ultimate_strengths classes (400 ∷ 800 ∷ 1000 ∷ []) tt bolts.class r.class;
}

-- a thickness of at most 63 mm is in some band
in_a_band : (thickness : ℕ) → thickness ≤ 630 → T (any (leb thickness) bands)
in_a_band thickness h = last (leb thickness 160) (leb thickness 400) (leb thickness 630) (le→leb thickness 630 h)
  where
    last : (a b c : Bool) → T c → T (a || (b || (c || false)))
    last true b c t = tt
    last false true c t = tt
    last false false true t = tt
    last false false false t = t

pub steel_range : (grade thickness : ℕ) → T (one_of grades grade) → thickness ≤ 630 → Within yield_strengths (steel_strength grade thickness)
unfolding steel_strength
steel_range grade thickness g h =
    let test = within yield_strengths in
    let low : List ℕ = 275 ∷ 265 ∷ 255 ∷ [] in
    let high : List ℕ = 355 ∷ 345 ∷ 335 ∷ [] in
    by_key yield_strengths grades (up_to bands low thickness ∷ up_to bands high thickness ∷ [])
    (yes_and (test (up_to bands low thickness)) (test (up_to bands high thickness) && true) (banded low tt)
    (yes_and (test (up_to bands high thickness)) true (banded high tt) tt))
    grade g
  where
    banded : (values : List ℕ) → T (each (within yield_strengths) bands values) → T (within yield_strengths (up_to bands values thickness))
    banded values t = of_found (within yield_strengths) (leb thickness) bands values t (in_a_band thickness h)

pub steel_in_range : (column : Column) (beam : Beam) (plate : Plate) → ColumnInRange column → BeamInRange beam → PlateInRange plate →
    SteelInRange (steel_strengths column beam plate)
steel_in_range column beam plate rc rb rp = record {
  column = steel_range column.grade column.flange rc.grade (omega (arith, rc.flange.high));
  beam = steel_range beam.grade beam.flange rb.grade (omega (arith, rb.flange.high));
  plate = steel_range plate.grade plate.thickness rp.grade (omega (arith, rp.thickness.high));
}

-- whatever the grades
pub weld_range : (beam plate : ℕ) → Within weld_strengths (weld_strength beam plate)
unfolding weld_strength
weld_range beam plate = either (either_is_275 beam plate)
  where
    either : (low : Bool) → Within weld_strengths (cond low 220 250)
    either true = within_yes weld_strengths 220 tt
    either false = within_yes weld_strengths 250 tt
