-- `joints::put_joint` meets its contract: each run of words is put after those before it. Assumes nothing.
use Rattle.std.proofs.Common.{ℕ, List, ◌++◌, append_assoc, rules, refl, sym, ap, ◌∙◌, length-take-le, arith}
use Rattle.buffers.specs.Put.{at_front}
use Rattle.fields.specs.Fields.{own_of}
use Rattle.words.specs.Words.{head_of}
use Rattle.words.proofs.Copies.{first_run, put_after}
use Rattle.words.proofs.joints.put_joint.Goals as goal

pub slice_bounds-copy_from_slice-end-2 : goal.slice_bounds-copy_from_slice-end-2
slice_bounds-copy_from_slice-end-2 c = sym (length-take-le 30 c.args.words.now (omega (arith, c.requires)))

pub copy_from_slice-requires : goal.copy_from_slice-requires
copy_from_slice-requires c = length-take-le 30 c.args.words.now (omega (arith, c.requires)) ∙ (search rules)

pub returns : goal.returns
returns c =
    let joint = c.args.joint in
    let own_is = c.own_of-own.ensures ∙ ap own_of c.head_of.ensures in
    let head = first_run c.args.words.now {count = 30} c.copy_from_slice.ensures.after (search rules) c.head_of-head.ensures in
    let first = put_after {count = 8} head c.copy_from_slice-2.ensures.after (search rules) refl in
    let own = put_after {count = 20} first c.copy_from_slice-3.ensures.after (search rules) own_is in
    let all = put_after {count = 8} own c.copy_from_slice-4.ensures.after (search rules) refl in
    all.put
    ∙ ap (λ (words : List ℕ). at_front words c.args.words.now)
    (append_assoc (head_of joint.column joint.bolts joint.face ++ joint.face.levers)
    (own_of (head_of joint.column joint.bolts joint.other)) joint.other.levers)
