-- Every checked joint comes out as stated.
-- Both sides are computed, with every definition on the way open. Assumes nothing.
use mathlib.Core.Path.{◌≡◌, refl}
use mathlib.Core.List.{map}
use Rattle.arithmetic.specs.Checks.{first_failing}
use Rattle.arithmetic.specs.Greatest.{search_from}
use Rattle.bolttable.specs.Loading.{sizes_in, rise_above, table_refusals, table_check, loaded, built_in}
use Rattle.bolttable.specs.Area.{area_among, area_of}
use Rattle.joint.specs.Fields.{lever_checks, fixed_checks, field_checks, field_check}
use Rattle.joint.specs.Faces.{two_faced, first_rows, first_face}
use Rattle.joint.specs.Places.{eight_places}
use Rattle.numbers.specs.Number.{groups, read_groups}
use Rattle.numbers.specs.Run.{read_numbers, stored_all}
use Rattle.fields.specs.Fields.{own_of, joint_of, axial_of, stored_axial, fields_of}
use Rattle.jointfile.specs.File.{read_others, read_part, read_second, read_joint}
use Rattle.jointfile.specs.Write.{part_of, file}
use Rattle.sharing.specs.Groups.{groups_above, group_count, listed, with_cap}
use Rattle.sharing.specs.Sharing.{least_up_to, lowered, allowance, next_force, forces_down_to, shared, moment, newton_metres}
use Rattle.sharing.specs.Triangle.{with_added}
use Rattle.allocation.specs.Allocation.{none_above, allocate_refusals, allocated}
use Rattle.allocation.specs.Raising.{raised_limits}
use Rattle.strength.specs.Steel.{steel_strength, steel_bearing, weld_strength}
use Rattle.strength.specs.Bolt.{bolt_tension, bolt_shear, bolt_bearing, bolt_ultimate, pair_tension, pair_shear}
use Rattle.strength.specs.Thickness.{thickness_limit, too_thick, both_too_thick}
use Rattle.stubs.specs.Bending.{extension_length, bending}
use Rattle.stubs.specs.Web.{web_tension}
use Rattle.tension.specs.Limits.{column_flange_bending, extension_bending, end_plate_bending, end_plate_limits, column_web_tension}
use Rattle.tension.specs.Limits.{beam_web_limits, group_limit}
use Rattle.compression.specs.Compression.{bearing_length, beam_flange, web_bearing, buckling_limit, web_buckling, reduced_near_end}
use Rattle.compression.specs.Compression.{panel_shear, resistances_of}
use Rattle.governing.specs.Governing.{lesser, governing_check}
use Rattle.governing.specs.Cap.{tension_cap, over_compressed}
use Rattle.verdicts.specs.Bending.{carries}
use Rattle.verdicts.specs.Bolts.{bearing, idle_pair, pulling_pair, bolt_total, bolts_pass}
use Rattle.verdicts.specs.Welds.{top_rows, flange_weld_by, web_weld_passes}
use Rattle.refusals.specs.Refusals.{fall_by, rows_in_place, too_tight}
use Rattle.panel.specs.Panel.{governing_total, panel_passes}
use Rattle.connection.specs.OneFace.{governing_of, cap_of, triangle_on, forces_of}
use Rattle.connection.specs.Connection.{refusals_after_10, result_of, worked_face, worked_connection}
use Rattle.work.specs.Work.{panel_verdict, worked_faces, worked_with}
use Rattle.items.specs.Digits.{digits}
use Rattle.items.specs.Items.{spaced}
use Rattle.line.specs.Line.{result_line, outcome_lines, concatenated}
use Rattle.printer.specs.Sheet.{lines_within, sheet_lines}
use Rattle.checked.specs.Checked.{Checked, table}

pub all_agree : map (λ (c : Checked). c.given) table ≡ map (λ (c : Checked). c.stated) table
unfolding table first_failing search_from sizes_in rise_above table_refusals table_check loaded built_in area_among area_of
    lever_checks fixed_checks field_checks field_check two_faced first_rows first_face eight_places
    groups read_groups read_numbers stored_all own_of joint_of axial_of stored_axial fields_of read_others read_part read_second read_joint part_of file
    groups_above group_count listed with_cap least_up_to lowered allowance next_force forces_down_to shared moment newton_metres with_added
    none_above allocate_refusals allocated raised_limits
    steel_strength steel_bearing weld_strength bolt_tension bolt_shear bolt_bearing bolt_ultimate pair_tension pair_shear
    thickness_limit too_thick both_too_thick extension_length bending web_tension
    column_flange_bending extension_bending end_plate_bending end_plate_limits column_web_tension beam_web_limits group_limit
    bearing_length beam_flange web_bearing buckling_limit web_buckling reduced_near_end panel_shear resistances_of
    lesser governing_check tension_cap over_compressed
    carries bearing idle_pair pulling_pair bolt_total bolts_pass top_rows flange_weld_by web_weld_passes fall_by rows_in_place too_tight
    governing_total panel_passes governing_of cap_of triangle_on forces_of refusals_after_10 result_of worked_face worked_connection
    panel_verdict worked_faces worked_with
    digits spaced result_line outcome_lines lines_within sheet_lines concatenated
all_agree = refl
