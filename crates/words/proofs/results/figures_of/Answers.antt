-- `results::figures_of` meets its contract, figure by figure. Assumes nothing.
use Rattle.words.specs.Results.{figure_words}
use Rattle.words.proofs.Flags.{flag_is}
use Rattle.words.proofs.results.figures_of.Goals as goal

pub returns : goal.returns
unfolding figure_words
returns c =
    let verdicts = c.args.of_face.now.verdicts in
    rw (
      c.check_number.ensures,
      c.force.ensures,
      c.from.ensures,
      c.from-2.ensures,
      c.from-3.ensures,
      c.from-4.ensures,
      flag_is verdicts.bending,
      flag_is verdicts.bolts,
      flag_is verdicts.flange_weld,
      flag_is verdicts.web_weld,
    )
