-- `write_parts` meets its contract: what is put is the file of a joint with two faces, or of one. Assumes nothing.
use mathlib.Core.Path.{◌≡◌, refl, sym, ap, ◌∙◌}
use mathlib.Core.Bool.{true}
use native.Mathlib.Omega.{arith}
use lib.ListN.{length-take}
use Rattle.joint.specs.Faces.{two_faced}
use Rattle.fields.specs.Fields.{own_of}
use Rattle.jointfile.specs.Write.{second_fields}
use Rattle.jointfile.proofs.Faces.{first_rows_few, second_rows_few}
use Rattle.jointfile.proofs.IfRoom.{own_count_lem, file_alone, file_both, first_counts}
use Rattle.jointfile.proofs.write_parts.Goals as goal
use Rattle.jointfile.proofs.write_parts.Goals.{After-own_of-own}

two : (c : After-own_of-own) → two_faced c.args.joint.face.rows ≡ true
two c =
    sym c.is_two_faced.ensures ∙ c.if-is_two_faced.true

own : (c : After-own_of-own) → c.own_of-own.result ≡ second_fields c.args.joint
own c =
    c.own_of-own.ensures ∙ ap own_of c.fields_of.ensures

pub slice_bounds-eight-end : goal.slice_bounds-eight-end
slice_bounds-eight-end c = omega (arith, c.first_rows-rows.ensures, first_rows_few c.args.joint c.requires)

pub slice_bounds-levers-end : goal.slice_bounds-levers-end
slice_bounds-levers-end c =
    let joint = c.args.joint in
    omega (arith, length-take c.first_rows-rows.result joint.face.levers, c.first_rows-rows.ensures, first_rows_few joint c.requires)

pub put_file-requires : goal.put_file-requires
put_file-requires c =
    let here = goal.at.put_file-requires c in
    let joint = c.args.joint in
    first_counts joint c.fields_of-fields.ensures refl c.first_rows-rows.ensures c.requires _ _
    (rw (own here.After-own_of-own) (own_count_lem joint))
    (omega (
      arith,
      length-take joint.other.rows joint.other.levers,
      second_rows_few joint c.requires (two here.After-own_of-own),
    ))

pub returns-then-is_two_faced : goal.returns-then-is_two_faced
returns-then-is_two_faced c =
    let here = goal.at.returns-then-is_two_faced c in
    let is =
    file_both c.args.joint c.fields_of-fields.ensures refl c.first_rows-rows.ensures (own here.After-own_of-own) refl
    (two here.After-own_of-own) in
    rw (← is) c.put_file.ensures

pub put_file-requires-2 : goal.put_file-requires-2
put_file-requires-2 c =
    first_counts c.args.joint c.fields_of-fields.ensures refl c.first_rows-rows.ensures c.requires _ _ (omega arith) (omega arith)

pub returns : goal.returns
returns c =
    let one = sym c.is_two_faced.ensures ∙ c.if-is_two_faced.false in
    let is = file_alone c.args.joint c.fields_of-fields.ensures refl c.first_rows-rows.ensures one in
    rw (← is) c.put_file-2.ensures
