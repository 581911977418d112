-- The checked joints of rules 14: for each, what the definitions give and what it is stated to be.
-- Assumes nothing.
use Rattle.std.specs.Prelude.{ℕ, ◌*◌, cond, List, [], ◌∷◌, ◌++◌, take, replicate, ℤ, pos, neg_ℤ}
use Rattle.bolttable.specs.Area.{area_of}
use Rattle.bolttable.specs.Loading.{loaded, built_in}
use Rattle.bolttable.specs.declared.BoltTable.{BoltTable}
use Rattle.joint.specs.declared.Joint.{Joint}
use Rattle.joint.specs.declared.Column.{Column}
use Rattle.joint.specs.declared.Face.{Face}
use Rattle.joint.specs.declared.Plate.{Plate}
use Rattle.numbers.specs.Parse.{Parse, got, refused}
use Rattle.numbers.specs.Number.{stored, read_number}
use Rattle.fields.specs.Fields.{second_face_of}
use Rattle.jointfile.specs.File.{no_part, reading}
use Rattle.jointfile.specs.Write.{file}
use Rattle.jointfile.specs.declared.FileKind.{FileKind}
use Rattle.jointfile.specs.declared.FileKind.TheVariants.{Old, New}
use Rattle.sharing.specs.Sharing.{moment}
use Rattle.allocation.specs.Allocation.{allocated}
use Rattle.allocation.specs.Raising.{raised_limits}
use Rattle.strength.specs.Steel.{steel_strength}
use Rattle.strength.specs.declared.BoltStrengths.{BoltStrengths}
use Rattle.strength.specs.Thickness.{both_too_thick}
use Rattle.strength.specs.declared.SteelStrengths.{SteelStrengths}
use Rattle.stubs.specs.Bending.{effective_edge, effective_length, bending}
use Rattle.stubs.specs.Web.{web_tension}
use Rattle.compression.specs.Compression.{web_buckling, reduced_near_end}
use Rattle.outcome.specs.Outcome.{PanelVerdict, NotAsked, Passes, Fails}
use Rattle.connection.specs.OneFace.{bolt_of}
use Rattle.work.specs.Work.{worked}
use Rattle.printer.specs.Sheet.{sheet_of}

pub record Checked : Type 0 where
  pub given : List ℕ
  pub stated : List ℕ

-- Allocate's whole answer for n rows under a list of limits: the refusal, 0 for none, and all eight places
allocate_answer : ℕ → List ℕ → List ℕ
allocate_answer n limits = let answer = allocated n limits in answer.refusal ∷ answer.forces

-- and before it the moment of the rows' forces with levers of 565, 465 and 375 millimetres, as many as there are rows
with_moment : ℕ → List ℕ → List ℕ
unfolding allocate_answer
with_moment n limits = moment (take n (565 ∷ 465 ∷ 375 ∷ [])) (take n (allocated n limits).forces) ∷ allocate_answer n limits

-- A, in kilonewtons: the forces and their moment
limits_A : List ℕ
limits_A = 371 ∷ 687 ∷ 974 ∷ 375 ∷ 679 ∷ 375 ∷ []

checked_A : Checked
unfolding with_moment limits_A
checked_A = record { given = with_moment 3 limits_A; stated = 464180 ∷ 0 ∷ 371 ∷ 316 ∷ 287 ∷ 0 ∷ 0 ∷ 0 ∷ 0 ∷ 0 ∷ [] }

-- B: A with 1–3 = 600
checked_B : Checked
unfolding allocate_answer
checked_B = record {
  given = allocate_answer 3 (371 ∷ 687 ∷ 600 ∷ 375 ∷ 679 ∷ 375 ∷ []);
  stated = 0 ∷ 371 ∷ 229 ∷ 0 ∷ 0 ∷ 0 ∷ 0 ∷ 0 ∷ 0 ∷ [];
}

-- C: limits 300, 200, 300 for two rows
limits_C : List ℕ
limits_C = 300 ∷ 200 ∷ 300 ∷ []

checked_C : Checked
unfolding allocate_answer limits_C
checked_C = record { given = allocate_answer 2 limits_C; stated = 0 ∷ 200 ∷ 0 ∷ 0 ∷ 0 ∷ 0 ∷ 0 ∷ 0 ∷ 0 ∷ [] }

-- A with 1–1 raised by 4: row 2 loses what row 1 gains, and the moment gains 4 × (565 − 465)
checked_A_raised : Checked
unfolding with_moment limits_A
checked_A_raised = record {
  given = with_moment 3 (raised_limits (record { first = 0; last = 0; newtons = 4 }) 3 limits_A);
  stated = 464580 ∷ 0 ∷ 375 ∷ 312 ∷ 287 ∷ 0 ∷ 0 ∷ 0 ∷ 0 ∷ 0 ∷ [];
}

-- C before and after 1–2 is raised by 50: row 1 gains all of it, so the moment gains 50 × 565, as much as it may
checked_C_raised : Checked
unfolding with_moment limits_C
checked_C_raised = record {
  given = with_moment 2 limits_C ++ with_moment 2 (raised_limits (record { first = 0; last = 1; newtons = 50 }) 2 limits_C);
  stated = (113000 ∷ 0 ∷ 200 ∷ 0 ∷ 0 ∷ 0 ∷ 0 ∷ 0 ∷ 0 ∷ 0 ∷ []) ++ (141250 ∷ 0 ∷ 250 ∷ 0 ∷ 0 ∷ 0 ∷ 0 ∷ 0 ∷ 0 ∷ 0 ∷ []);
}

-- bolts of class 88, M24, by the table built in
bolts_M24 : BoltStrengths
bolts_M24 = bolt_of (record { class = 88; diameter = 24 }) (area_of built_in 24)

-- D: the bolts are class 88, M24, and Tc is 205: yc and W come of the definitions
yc_D : ℕ
yc_D = steel_strength 275 205

W_D : ℕ
unfolding bolts_M24
W_D = bolts_M24.pair_tension

-- column flange bending of so many rows with a rise
flange : (rows rise : ℕ) → ℕ
unfolding yc_D W_D
flange rows rise = bending 3334 (effective_edge 7915 5000 3334) 205 yc_D W_D rows (effective_length 3334 7915 rise)

checked_D : Checked
unfolding flange
checked_D = record {
  given = yc_D ∷ W_D ∷ flange 1 0 ∷ flange 2 1000 ∷ flange 3 1900 ∷ [];
  stated = 265 ∷ 395360 ∷ 375131 ∷ 685938 ∷ 972382 ∷ [];
}

-- E: one row, column web
checked_E : Checked
checked_E = record { given = web_tension 1000 0 130 265 ∷ []; stated = 595985 ∷ [] }

-- F: web buckling with b 1973 and z; the column's other fields don't count
column_F : (z : ℕ) → Column
column_F z = record { grade = 275; depth = 0; width = 0; flange = 0; web = 96; radius = 0; clear = 4765; end_distance = z }

buckling_F : (z : ℕ) → ℕ
unfolding column_F
buckling_F z = reduced_near_end (web_buckling 1973 275 (column_F z)) (column_F z)

-- at the greatest z, on both sides of 0.7×dc = 3335.5, and at the least z
checked_F : Checked
unfolding buckling_F
checked_F = record {
  given = buckling_F 15000 ∷ buckling_F 3336 ∷ buckling_F 3335 ∷ buckling_F 1 ∷ [];
  stated = 407706 ∷ 407706 ∷ 407675 ∷ 203914 ∷ [];
}

-- G: 1 where a column flange of that thickness, and a plate of that thickness, are both too thick for bolts of class 88, M24
column_G : (Tc : ℕ) → Column
column_G Tc = record { grade = 275; depth = 0; width = 0; flange = Tc; web = 0; radius = 0; clear = 0; end_distance = 0 }

plate_G : (tp : ℕ) → Plate
plate_G tp = record { grade = 275; width = 0; thickness = tp }

steel_G : (Tc tp : ℕ) → SteelStrengths
steel_G Tc tp = record { column = steel_strength 275 Tc; beam = 0; plate = steel_strength 275 tp }

thick : (Tc tp : ℕ) → ℕ
unfolding column_G plate_G steel_G bolts_M24
thick Tc tp = cond (both_too_thick (column_G Tc) (plate_G tp) (steel_G Tc tp) bolts_M24) 1 0

-- Tc 219 and 220 with a plate that is too thick, and with one that isn't; yc
checked_G : Checked
unfolding thick
checked_G = record {
  given = thick 219 220 ∷ thick 220 220 ∷ thick 220 219 ∷ steel_strength 275 220 ∷ [];
  stated = 0 ∷ 1 ∷ 0 ∷ 265 ∷ [];
}

-- H: 300 as it is stored; what its bytes, and a longer form of it, read as: the refusal, 0 for none, the number and the bytes left
read_H : Parse ℕ → List ℕ
read_H (got number left) = 0 ∷ number ∷ left
read_H (refused refusal) = refusal ∷ []

checked_H : Checked
unfolding read_H
checked_H = record {
  given = stored 300 ++ read_H (read_number (0xAC ∷ 0x02 ∷ [])) ++ read_H (read_number (0xAC ∷ 0x82 ∷ 0x00 ∷ []));
  stated = 0xAC ∷ 0x02 ∷ 0 ∷ 300 ∷ 2 ∷ [];
}

-- I: its face by fields 1 and 2, N and the first four levers, ex 500 if extended; its column, by its flange; the joint
face_I_rows : (count extended : ℕ) (axial : ℤ) (levers : List ℕ) → Face
face_I_rows count extended axial levers = record {
  rows = count;
  extended = extended;
  beam = record { grade = 275; depth = 3071; width = 1657; flange = 118; web = 67 };
  plate = record { grade = 275; width = 2000; thickness = 200 };
  layout = record { gauge = 900; edge = 500 * extended; alpha = 600 };
  welds = record { flange = 80; web = 60; length = 2000 };
  shear_rows = 1;
  loads = record { axial = axial; shear = 57000; moment = 50000 };
  levers = levers ++ replicate 4 0;
}

face_I : (count : ℕ) (axial : ℤ) → Face
unfolding face_I_rows
face_I count axial = face_I_rows count 0 axial (2400 ∷ 0 ∷ 0 ∷ 0 ∷ [])

column_I : (flange : ℕ) → Column
column_I flange = record {
  grade = 275;
  depth = 5283;
  width = 2087;
  flange = flange;
  web = 96;
  radius = 127;
  clear = 4765;
  end_distance = 15000;
}

-- with one face, a column flange and bolts of a diameter
joint_I_on : (flange diameter : ℕ) → Face → Joint
unfolding column_I
joint_I_on flange diameter face = record {
  column = column_I flange;
  bolts = record { class = 88; diameter = diameter };
  face = face;
  other = second_face_of no_part.fields no_part.levers;
}

joint_I : ℤ → Joint
unfolding joint_I_on face_I
joint_I axial = joint_I_on 132 20 (face_I 1 axial)

-- I's file of either kind
file_I : FileKind → List ℕ
file_I kind = file kind (joint_I (pos 0))

-- what the sheet program prints of it, in ASCII: `1 1 219345 219345 52642 407706 K P P P P`, whatever letters follow, and a line feed
line_I : (letters : List ℕ) → List ℕ
line_I letters =
    49 ∷ 32 ∷ 49 ∷ 32 ∷ 50 ∷ 49 ∷ 57 ∷ 51 ∷ 52 ∷ 53 ∷ 32 ∷ 50 ∷ 49 ∷ 57 ∷ 51 ∷ 52 ∷ 53 ∷ 32 ∷ 53 ∷ 50 ∷ 54 ∷ 52 ∷ 50
    ∷ 32 ∷ 52 ∷ 48 ∷ 55 ∷ 55 ∷ 48 ∷ 54 ∷ 32 ∷ 75 ∷ 32 ∷ 80 ∷ 32 ∷ 80 ∷ 32 ∷ 80 ∷ 32 ∷ 80 ∷ letters ++ (10 ∷ [])

checked_I : Checked
unfolding joint_I file_I line_I
checked_I = record { given = sheet_of (file_I New); stated = line_I [] }

-- N at the governing force and a newton above it: refusal, then the first row's force
pushed : ℤ → List ℕ
pushed axial = let outcome = worked built_in (joint_I axial) in outcome.refusal.number ∷ take 1 outcome.result.forces

checked_I_pushed : Checked
unfolding joint_I pushed
checked_I_pushed = record { given = pushed (pos 407706) ++ pushed (pos 407707); stated = 0 ∷ 0 ∷ 15 ∷ 0 ∷ [] }

-- I's file, read as its kind to the joint: the refusal, the place after it, and the new file of that joint
read_I : FileKind → List ℕ
unfolding joint_I file_I
read_I kind = let read = reading kind (file_I kind) in read.refusal ∷ read.next ∷ file New read.joint

bytes_I : List ℕ
bytes_I =
    1 ∷ 0 ∷ 88 ∷ 20 ∷ 0x93 ∷ 2 ∷ 0x93 ∷ 2 ∷ 0x93 ∷ 2 ∷ 0xA3 ∷ 0x29 ∷ 0xA7 ∷ 0x10 ∷ 0x84 ∷ 1 ∷ 96 ∷ 127
    ∷ 0x9D ∷ 0x25 ∷ 0xFF ∷ 0x17 ∷ 0xF9 ∷ 0x0C ∷ 118 ∷ 67 ∷ 0xD0 ∷ 0x0F ∷ 0xC8 ∷ 1 ∷ 0x84 ∷ 7 ∷ 0 ∷ 0xD8 ∷ 4 ∷ 80 ∷ 60
    ∷ 0xD0 ∷ 0x0F ∷ 1 ∷ 0 ∷ 0xA8 ∷ 0xBD ∷ 3 ∷ 0xD0 ∷ 0x86 ∷ 3 ∷ 0x98 ∷ 0x75 ∷ 0xE0 ∷ 0x12 ∷ []

checked_I_file : Checked
unfolding read_I bytes_I
checked_I_file = record { given = read_I New ++ read_I Old; stated = (0 ∷ 51 ∷ bytes_I) ++ (0 ∷ 49 ∷ bytes_I) }

-- I on both faces of its column, with an axial force N on each
both_I : (first second : ℤ) → Joint
unfolding face_I column_I
both_I first second = record {
  column = column_I 132;
  bolts = record { class = 88; diameter = 20 };
  face = face_I 17 first;
  other = face_I 1 second;
}

-- its line for each face, with the panel's P
checked_I_both : Checked
unfolding both_I line_I
checked_I_both = record {
  given = sheet_of (file New (both_I (pos 0) (pos 0)));
  stated = line_I (32 ∷ 80 ∷ []) ++ line_I (32 ∷ 80 ∷ []);
}

-- the refusal, its face and the panel's verdict: 1 passes, 2 fails, 0 isn't asked
panel_number : PanelVerdict → ℕ
panel_number NotAsked = 0
panel_number Passes = 1
panel_number Fails = 2

panel_I : (first second : ℤ) → List ℕ
unfolding both_I panel_number
panel_I first second =
    let outcome = worked built_in (both_I first second) in
    outcome.refusal.number ∷ outcome.refusal.face ∷ panel_number outcome.panel ∷ []

-- panel shear is 836827: tension of that much on either face, and of a newton more; and N above the governing force on either
checked_I_panel : Checked
unfolding panel_I
checked_I_panel = record {
  given = panel_I (pos 0) (neg_ℤ (pos 836827)) ++ panel_I (pos 0) (neg_ℤ (pos 836828)) ++ panel_I (neg_ℤ (pos 836828)) (pos 0)
      ++ panel_I (pos 407707) (pos 407707) ++ panel_I (pos 0) (pos 407707);
  stated = (0 ∷ 0 ∷ 1 ∷ []) ++ (0 ∷ 0 ∷ 2 ∷ []) ++ (0 ∷ 0 ∷ 2 ∷ []) ++ (15 ∷ 1 ∷ 0 ∷ []) ++ (15 ∷ 2 ∷ 0 ∷ []);
}

-- a bolt table of two sizes
two_sizes : (first first_area second second_area : ℕ) → BoltTable
two_sizes first first_area second second_area = record {
  count = 2;
  diameters = first ∷ second ∷ replicate 10 0;
  areas = first_area ∷ second_area ∷ replicate 10 0;
}

-- what loading one answers after the table built in: the refusal, and the count and first size of the table that is then in force
loading : BoltTable → List ℕ
loading table =
    let answer = loaded built_in table in
    let after = answer.table in
    answer.refusal ∷ after.count ∷ take 1 after.diameters ++ take 1 after.areas

-- taken at the ends of every range; a number out of range though the diameters fall; equal diameters though an area is too large; an area
-- one too large
checked_loading : Checked
unfolding two_sizes loading
checked_loading = record {
  given = loading (two_sizes 6 1 64 32153) ++ loading (two_sizes 64 32154 5 1) ++ loading (two_sizes 22 3800 22 3801)
      ++ loading (two_sizes 22 3799 24 4522);
  stated = (0 ∷ 2 ∷ 6 ∷ 1 ∷ []) ++ (16 ∷ 5 ∷ 12 ∷ 843 ∷ []) ++ (17 ∷ 5 ∷ 12 ∷ 843 ∷ []) ++ (18 ∷ 5 ∷ 12 ∷ 843 ∷ []);
}

-- I with a bolt table and a diameter: refusal, field, and the first row's force
own_I : BoltTable → (diameter : ℕ) → List ℕ
unfolding joint_I_on face_I
own_I table diameter =
    let outcome = worked table (joint_I_on 132 diameter (face_I 1 (pos 0))) in
    outcome.refusal.number ∷ outcome.refusal.field ∷ take 1 outcome.result.forces

-- M20 as built in, M22, a diameter that the table doesn't have, and M22 of a table that loading refuses
checked_I_own : Checked
unfolding two_sizes own_I
checked_I_own = record {
  given = own_I (two_sizes 20 2450 22 3030) 20 ++ own_I (two_sizes 20 2450 22 3030) 22 ++ own_I (two_sizes 20 2450 22 3030) 24
      ++ own_I (two_sizes 22 3030 22 3030) 22;
  stated = (0 ∷ 0 ∷ 219345 ∷ []) ++ (0 ∷ 0 ∷ 255434 ∷ []) ++ (10 ∷ 4 ∷ 0 ∷ []) ++ (10 ∷ 4 ∷ 0 ∷ []);
}

-- I with two rows at these levers: the refusal
pair_I : (extended first second : ℕ) → List ℕ
unfolding joint_I_on face_I_rows
pair_I extended first second =
    let face = face_I_rows 2 extended (pos 0) (first ∷ second ∷ 0 ∷ 0 ∷ []) in
    (worked built_in (joint_I_on 132 20 face)).refusal.number ∷ []

-- rows 25δ = 500 apart, and 499; equal levers, which are too close as well; 499 apart with the first row out of place; and with the first
-- above the flange, 500 and 499 apart
checked_I_apart : Checked
unfolding pair_I
checked_I_apart = record {
  given = pair_I 0 2400 1900 ++ pair_I 0 2400 1901 ++ pair_I 0 2400 2400 ++ pair_I 0 2894 2395 ++ pair_I 1 3393 2893 ++ pair_I 1 3392 2893;
  stated = 0 ∷ 19 ∷ 11 ∷ 19 ∷ 0 ∷ 19 ∷ [];
}

-- I with four rows, a column flange, and tension that lifts the cap: the refusal and the forces of the rows
four_I : (flange extended tension : ℕ) (levers : List ℕ) → List ℕ
unfolding joint_I_on face_I_rows
four_I flange extended tension levers =
    let outcome = worked built_in (joint_I_on flange 20 (face_I_rows 4 extended (neg_ℤ (pos tension)) levers)) in
    outcome.refusal.number ∷ take 4 outcome.result.forces

-- The plate is too thick for the bolts, and the flange isn't at 182 and is at 183: row 3 then gets no more than 274400 × 1400 ÷ 2400, which
-- leaves more to row 4, and that no more than 274400 × 900 ÷ 2400. With less tension the cap leaves rows 3 and 4 less than that. With row 1
-- above the beam flange the triangle hangs from row 2.
checked_I_thick : Checked
unfolding four_I
checked_I_thick = record {
  given = four_I 182 0 1000000 (2400 ∷ 1900 ∷ 1400 ∷ 900 ∷ []) ++ four_I 183 0 1000000 (2400 ∷ 1900 ∷ 1400 ∷ 900 ∷ [])
      ++ four_I 183 0 100000 (2400 ∷ 1900 ∷ 1400 ∷ 900 ∷ []) ++ four_I 183 1 1000000 (3393 ∷ 2893 ∷ 1900 ∷ 900 ∷ []);
  stated = (0 ∷ 274400 ∷ 189150 ∷ 184911 ∷ 97066 ∷ []) ++ (0 ∷ 274400 ∷ 190898 ∷ 160066 ∷ 102900 ∷ [])
      ++ (0 ∷ 274400 ∷ 190898 ∷ 60004 ∷ 0 ∷ []) ++ (0 ∷ 226748 ∷ 238550 ∷ 156669 ∷ 74211 ∷ []);
}

-- I with no rows: its face by field 1, extended or not, with a first lever
no_rows_I : (count extended lever : ℕ) → Face
unfolding face_I_rows
no_rows_I count extended lever = face_I_rows count extended (pos 0) (lever ∷ 0 ∷ 0 ∷ 0 ∷ [])

-- on both faces of its column
no_rows_on_both : Joint
unfolding no_rows_I column_I
no_rows_on_both = record {
  column = column_I 132;
  bolts = record { class = 88; diameter = 20 };
  face = no_rows_I 16 0 0;
  other = no_rows_I 0 0 0;
}

-- what the sheet program prints, in ASCII: `1 0 0 0 407706 K F P P P`, whatever letters follow, and a line feed
line_no_rows : (letters : List ℕ) → List ℕ
line_no_rows letters =
    49 ∷ 32 ∷ 48 ∷ 32 ∷ 48 ∷ 32 ∷ 48 ∷ 32 ∷ 52 ∷ 48 ∷ 55 ∷ 55 ∷ 48 ∷ 54 ∷ 32 ∷ 75 ∷ 32 ∷ 70 ∷ 32 ∷ 80 ∷ 32 ∷ 80 ∷ 32 ∷ 80
    ∷ letters ++ (10 ∷ [])

-- its line of one face, and of both
checked_I_no_rows : Checked
unfolding no_rows_I no_rows_on_both joint_I_on line_no_rows
checked_I_no_rows = record {
  given = sheet_of (file New (joint_I_on 132 20 (no_rows_I 0 0 0))) ++ sheet_of (file New no_rows_on_both);
  stated = line_no_rows [] ++ line_no_rows (32 ∷ 80 ∷ []) ++ line_no_rows (32 ∷ 80 ∷ []);
}

-- the refusal and the field
refused_no_rows : (extended lever : ℕ) → List ℕ
unfolding no_rows_I joint_I_on
refused_no_rows extended lever =
    let refusal = (worked built_in (joint_I_on 132 20 (no_rows_I 0 extended lever))).refusal in refusal.number ∷ refusal.field ∷ []

-- extended, with a lever, and both
checked_no_rows_refused : Checked
unfolding refused_no_rows
checked_no_rows_refused = record {
  given = refused_no_rows 1 0 ++ refused_no_rows 0 1 ++ refused_no_rows 1 1;
  stated = (10 ∷ 2 ∷ []) ++ (10 ∷ 31 ∷ []) ++ (10 ∷ 2 ∷ []);
}

-- Allocate for no rows, handed no limit, and one that would be too large
checked_no_rows_allocated : Checked
unfolding allocate_answer
checked_no_rows_allocated = record {
  given = allocate_answer 0 [] ++ allocate_answer 0 (4000000001 ∷ []);
  stated = replicate 9 0 ++ replicate 9 0;
}

unfoldable pub table : List Checked
unfolding checked_A checked_B checked_C checked_A_raised checked_C_raised checked_D checked_E checked_F checked_G checked_H
    checked_I checked_I_pushed checked_I_file checked_I_both checked_I_panel checked_loading checked_I_own checked_I_apart
    checked_I_thick checked_I_no_rows checked_no_rows_refused checked_no_rows_allocated
table =
    checked_A ∷ checked_B ∷ checked_C ∷ checked_A_raised ∷ checked_C_raised ∷ checked_D ∷ checked_E ∷ checked_F ∷ checked_G ∷ checked_H
    ∷ checked_I ∷ checked_I_pushed ∷ checked_I_file ∷ checked_I_both ∷ checked_I_panel ∷ checked_loading ∷ checked_I_own
    ∷ checked_I_apart ∷ checked_I_thick ∷ checked_I_no_rows ∷ checked_no_rows_refused
    ∷ checked_no_rows_allocated ∷ []
