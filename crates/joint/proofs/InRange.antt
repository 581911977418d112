-- Where the check finds nothing, each field is in its range: every test of the list has passed, and each named range is read off at its
-- field's number. Assumes nothing.
use mathlib.Core.Path.{◌≡◌, sym, ap, subst, ◌∙◌}
use mathlib.Core.Bool.{Bool, true, false, cond}
use mathlib.Core.List.{List, [], ◌∷◌}
use Prim.Native.Nat.{ℕ, zero, suc, ◌+◌, ◌-◌, ◌≤◌, ◌<◌, zero-le}
use native.Mathlib.Nat.{add-zero, add-suc, suc-add, zero-add, le_of_suc-le-suc, not-suc-le-zero, le_trans}
use native.Mathlib.Decide.{dec_lt}
use native.Mathlib.Omega.{arith}
use borrow.Author.Tests.{lt-ltb}
use lib.Dec.{T, leb, ltb, eqb, leb→le}
use lib.IntN.{ℤ, pos, negsuc, nat_abs}
use lib.ListN.{length, get_or, get_or-eq_default}
use lib.Seq.{get_or-append-add}
use mir.Facts.{and_yes}
use Rattle.std.specs.Prelude.{Ok, Option}
use Rattle.arithmetic.specs.Checks.{Check}
use Rattle.arithmetic.specs.Range.{Range, Within, within, ◌to◌}
use Rattle.arithmetic.proofs.Checks.{all_hold}
use Rattle.arithmetic.proofs.Bounds.{within_yes}
use Rattle.joint.specs.Ranges.{row_counts, flags, depths, widths, flanges, webs, radii, clears, plate_widths, thicknesses}
use Rattle.joint.specs.Ranges.{gauges, edges, alphas, legs, weld_lengths, shear_row_counts, loads, end_distances, most_lever, levers}
use Rattle.joint.specs.Fields.{field_check, field_checks, fixed_checks, lever_checks, within_both_signs, outside}
use Rattle.joint.specs.InRange.{InRange, FaceInRange}
use Rattle.joint.specs.declared.Column.{Column}
use Rattle.joint.specs.declared.Bolts.{Bolts}
use Rattle.joint.specs.declared.Face.{Face}
use Rattle.joint.proofs.Fields.{apart}

-- the test at a place of the list; past its end nothing is asked
abbrev test : List Check → ℕ → Bool
test checks k = (get_or checks k (0, true)).1

lever_test : (n row : ℕ) (hs : List ℕ) (k : ℕ) → k < length hs → test (lever_checks n row hs) k ≡ within (levers n (row + k)) (get_or hs k 0)
unfolding lever_checks
lever_test n row [] k h = absurd (not-suc-le-zero h)
lever_test n row (x ∷ xs) zero h = rw add-zero
lever_test n row (x ∷ xs) (suc k) h =
    lever_test n (suc row) xs k (le_of_suc-le-suc h)
    ∙ ap (λ (i : ℕ). within (levers n i) (get_or xs k 0)) (suc-add row k ∙ sym (add-suc row k))

size : (force : ℤ) → T (within_both_signs force) → Within loads (nat_abs force)
size (pos n) t = record { low = zero-le; high = leb→le n loads.high t }
size (negsuc n) t = record { low = zero-le; high = let h = leb→le n 9999999 (and_yes (leb n 9999999) true t).0 in omega arith }

module _ (column : Column) (bolts : Bolts) (area : Option ℕ) (face : Face)
    (found : field_check column bolts area face ≡ Ok tt) where
  held : (place : ℕ) → T (test (field_checks column bolts area face) place)
  unfolding field_check
  held = all_hold (Ok tt) outside apart (field_checks column bolts area face) found

  field : (number : ℕ) → T (test (field_checks column bolts area face) (number - 1))
  field number = held (number - 1)

  lever : (row : ℕ) → row < length face.levers → Within (levers face.rows row) (get_or face.levers row 0)
  unfolding field_checks fixed_checks
  lever row h =
      let n = face.rows in
      let hs = face.levers in
      let after-fixed = get_or-append-add (fixed_checks column bolts area face) (lever_checks n 0 hs) row (0, true) in
      let test_at : test (field_checks column bolts area face) (30 + row) ≡ within (levers n row) (get_or hs row 0) =
      ap (λ (check : Check). check.1) after-fixed ∙ lever_test n 0 hs row h
      ∙ ap (λ (i : ℕ). within (levers n i) (get_or hs row 0)) (zero-add row) in
      within_yes (levers n row) (get_or hs row 0) (subst (λ (b : Bool). T b) test_at (held (30 + row)))

  pub in_range : InRange column bolts area face
  unfolding field_checks fixed_checks
  in_range =
      let beam = face.beam in
      let plate = face.plate in
      let layout = face.layout in
      let welds = face.welds in
      let forces = face.loads in
      record {
        column = record {
          grade = field 5;
          depth = within_yes depths column.depth (field 8);
          width = within_yes widths column.width (field 9);
          flange = within_yes flanges column.flange (field 10);
          web = within_yes webs column.web (field 11);
          radius = within_yes radii column.radius (field 12);
          clear = within_yes clears column.clear (field 13);
          end_distance = within_yes end_distances column.end_distance (field 30);
        };
        bolts = record { class = field 3; diameter = field 4 };
        face = record {
          rows = within_yes row_counts face.rows (field 1);
          extended = within_yes (flags face.rows) face.extended (field 2);
          beam = record {
            grade = field 6;
            depth = within_yes depths beam.depth (field 14);
            width = within_yes widths beam.width (field 15);
            flange = within_yes flanges beam.flange (field 16);
            web = within_yes webs beam.web (field 17);
          };
          plate = record {
            grade = field 7;
            width = within_yes plate_widths plate.width (field 18);
            thickness = within_yes thicknesses plate.thickness (field 19);
          };
          layout = record {
            gauge = within_yes gauges layout.gauge (field 20);
            edge = within_yes (edges face.extended) layout.edge (field 21);
            alpha = within_yes alphas layout.alpha (field 22);
          };
          welds = record {
            flange = within_yes legs welds.flange (field 23);
            web = within_yes legs welds.web (field 24);
            web_length = within_yes weld_lengths welds.length (field 25);
          };
          shear_rows = within_yes shear_row_counts face.shear_rows (field 26);
          loads = record {
            axial = size forces.axial (field 27);
            shear = within_yes loads forces.shear (field 28);
            moment = within_yes loads forces.moment (field 29);
          };
          lever = lever;
        };
      }

-- a number in one of two ranges is at most what neither goes above
high_of_either : (test : Bool) (a b : Range) {x most : ℕ} → a.high ≤ most → b.high ≤ most → Within (cond test a b) x → x ≤ most
high_of_either true a b first second w = le_trans w.high first
high_of_either false a b first second w = le_trans w.high second

-- what a range that goes by another field says, whatever that field is or where it is known
module _ (face : Face) (r : FaceInRange face) where
  -- field 2 is 0 or 1, whatever the rows
  pub extended_most : face.extended ≤ 1
  extended_most = high_of_either (eqb face.rows 0) (0 to 0) (0 to 1) (omega arith) (omega arith) r.extended

  -- and no edge distance is above that of an extended plate
  pub edge_most : face.layout.edge ≤ (edges 1).high
  edge_most = high_of_either (eqb face.extended 0) (edges 0) (edges 1) (omega arith) (omega arith) r.layout.edge

  -- no lever is above the greatest, and places past the last lever are 0
  pub lever_most : (row : ℕ) → get_or face.levers row 0 ≤ most_lever
  lever_most row =
      elim (dec_lt row (length face.levers)) [
        | yes h ↦ high_of_either (ltb row face.rows) (1 to most_lever) (0 to 0) (omega arith) (omega arith) (r.lever row h)
        | no h ↦ rw (get_or-eq_default face.levers 0 {n = row} (omega arith)) zero-le
      ]

  pub row_lever : (row : ℕ) → row < face.rows → row < length face.levers → Within (1 to most_lever) (get_or face.levers row 0)
  row_lever row used h = rw (lt-ltb row face.rows used) at (r.lever row h)
