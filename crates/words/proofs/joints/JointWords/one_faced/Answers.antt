-- `JointWords::one_faced` meets its contract: fields and levers are what their functions ensure. Assumes nothing.
use mathlib.Core.Path.{ap, ap₂, ◌∙◌}
use Rattle.fields.specs.Fields.{column_of, bolts_of, first_face_of, joint_of}
use Rattle.words.proofs.Copies.{part_is}
use Rattle.words.proofs.joints.JointWords.one_faced.Goals as goal

pub returns : goal.returns
unfolding joint_of
returns c =
    let fields = c.fields-fields.ensures in
    let levers = part_is _ _ _ _ c.try_into.ensures.1 c.unwrap.ensures in (
      c.column_of.ensures ∙ ap column_of fields,
      c.bolts_of.ensures ∙ ap bolts_of fields,
      c.first_face_of.ensures ∙ ap₂ first_face_of fields levers,
    )
