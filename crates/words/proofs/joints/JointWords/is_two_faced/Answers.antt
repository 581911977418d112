-- `JointWords::is_two_faced` meets its contract: field 1 is the first word. Assumes nothing.
use Rattle.std.proofs.Common.{◌≡◌, List, ℕ, get_or, take, sym, ap, ◌∙◌, arith}
use lib.Seq.{get_or-set_other, get_or-take}
use Rattle.joint.specs.Faces.{two_faced}
use Rattle.fields.specs.Fields.{field_count, joint_of}
use Rattle.words.specs.Words.{fields_of_words, joint_of_words}
use Rattle.words.proofs.joints.JointWords.is_two_faced.Goals as goal

first_word : (words : List ℕ) → (joint_of_words words).face.rows ≡ get_or words 0 0
unfolding joint_of fields_of_words
first_word words =
    get_or-set_other (take field_count words) 26 0 _ 0 (λ same. absurd (omega arith)) ∙ get_or-take field_count words 0 0 (omega arith)

pub returns : goal.returns
returns c = c.is_two_faced.ensures ∙ ap two_faced (sym (first_word c.args.self.words.now))
