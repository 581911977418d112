-- `work_joint` meets its contract: the area is that which the table lists. Assumes nothing.
use Rattle.std.proofs.Common.{Ok, rules}
use Rattle.bolttable.proofs.Areas.{area_in_range}
use Rattle.outcome.specs.Outcome.{outcome_meaning}
use Rattle.words.specs.Tables.{table_of_words}
use Rattle.words.specs.Words.{joint_of_words}
use Rattle.exports.proofs.Calls.{demand_words}
use Rattle.exports.proofs.work_joint.Goals as goal

pub work_with-requires : goal.work_with-requires
work_with-requires c = rw c.area_of-area.ensures (area_in_range _ _)

pub returns : goal.returns
returns c =
    let eight = c.put_worked.ensures.forces_len in
    record {
      equals = search rules;
      demand =
          rw c.put_worked.ensures.words_after
          (demand_words c.args.res.now (table_of_words c.args.table.words.now) (joint_of_words c.args.fields.words.now) (outcome_meaning (Ok c.in_ok-worked.worked))
          eight.0 eight.1 (rw (c.area_of-area.ensures, c.lent.ensures, c.joint-joint.ensures) at c.in_ok-worked.ensures.demand));
    }
