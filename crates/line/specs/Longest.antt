-- How long a line of the sheet can be. No rule says it; printing goes by it. Assumes nothing.
use Rattle.std.specs.Prelude.{ℕ, cond}
use Rattle.outcome.specs.Outcome.{PanelVerdict}
use Rattle.line.specs.Line.{is_asked}

-- how many letters a line shows
abbrev pub letter_count : PanelVerdict → ℕ
letter_count panel = cond (is_asked panel) 6 5

-- No line is longer: 20 digits of the joint's number; the row count, eight forces and three figures of up to 20 digits, each with its
-- space; six letters with theirs; and the line feed.
abbrev pub most_line : ℕ
most_line = 285
