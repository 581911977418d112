-- `sheet` meets its contract: `R 4` alone, or the lines of the joints. Assumes nothing.
use Rattle.std.proofs.Common.{◌≡◌, ℕ, List, sym, ap, ◌∙◌}
use Rattle.line.specs.Line.{Line, concatenated}
use Rattle.printer.specs.Answers.{printing}
use Rattle.printer.specs.Sheet.{sheet_of, sheet_lines}
use Rattle.printer.proofs.Walk.{sheet_over_long, sheet_joints}
use Rattle.printer.proofs.sheet.Goals as goal

-- what prints the lines of the sheet prints the sheet
prints : (input output : List ℕ) {lines : List Line} → sheet_lines input ≡ lines
    → printing (concatenated lines) output ≡ printing (sheet_of input) output
prints input output is = ap (λ (lines : List Line). printing (concatenated lines) output) (sym is)

pub returns-then-input-gt-MOST_INPUT : goal.returns-then-input-gt-MOST_INPUT
returns-then-input-gt-MOST_INPUT c = c.print_over_long.ensures ∙ prints _ _ (sheet_over_long c.args.input.now c.if-input-gt-MOST_INPUT.true)

pub returns : goal.returns
returns c = c.print.ensures ∙ prints _ _ (sheet_joints c.args.input.now c.if-input-gt-MOST_INPUT.false)
