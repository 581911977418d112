-- `put_verdicts` meets its contract: the face's own letters are taken, and then the panel's. Assumes nothing.
use Rattle.outcome.specs.Outcome.{second_panel}
use Rattle.line.proofs.Lines.{letters_parts, panel_shown}
use Rattle.line.proofs.put_verdicts.Goals as goal

pub put_letters-requires : goal.put_letters-requires
put_letters-requires g c =
    g.met.S.Sink.room_first _ _ _
    (rw (letters_parts c.args.face.now (second_panel c.args.second.now) c.letters_of.ensures) at c.requires)

pub put_letters-requires-in-Some : goal.put_letters-requires-in-Some
put_letters-requires-in-Some g c =
    let room = rw (letters_parts c.args.face.now (second_panel c.args.second.now) c.letters_of.ensures) at c.requires in
    let left = g.met.S.Sink.room_after _ _ _ _ c.put_letters.ensures room in
    rw (panel_shown c.in-Some.is c.verdict_letter.ensures) at left

pub returns-in-Some : goal.returns-in-Some
returns-in-Some g c =
    rw (letters_parts c.args.face.now (second_panel c.args.second.now) c.letters_of.ensures, panel_shown c.in-Some.is c.verdict_letter.ensures)
    (g.met.S.Sink.takes_both _ _ _ _ _ c.put_letters.ensures c.put_letters-in-Some.ensures)
