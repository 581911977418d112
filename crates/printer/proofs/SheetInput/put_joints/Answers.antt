-- `SheetInput::put_joints` meets its contract: the loop's head is `WalkHead`. A joint that was read carries it on, and a refusal or the
-- input's end ends it. Assumes nothing.
use Rattle.std.proofs.Common.{◌≡◌, ◌+◌, ◌≤◌, ◌<◌, ℕ, List, ◌∷◌, [], ◌++◌, drop, length, sym, subst, arith, length-drop}
use Rattle.jointfile.specs.Answers.{read_refusal}
use Rattle.line.specs.Line.{concatenated, refusal_line}
use Rattle.printer.specs.Sheet.{joint_lines}
use Rattle.printer.proofs.Prints.{WalkHead, lines_left, some_left, no_lines_left, left_after, lines_read, lines_refused, next_onward}
use Rattle.printer.proofs.SheetInput.put_joints.Given.{Over}
use Rattle.printer.proofs.SheetInput.put_joints.Goals as goal
use Rattle.printer.proofs.SheetInput.put_joints.Goals.{In-Ok, In-Err}

-- the lines left are those of the joint that was read and of what is left after it
read : (g : Over) (c : In-Ok g)
    → let head = c.loop-left in
    let joint = c.in-Ok.reading in
    lines_left head.number head.left.now
    ≡ concatenated (joint_lines head.number joint.joint) ++ lines_left (head.number + 1) (drop joint.next head.left.now)
read g c =
    lines_read c.loop-left.number c.loop-left.left.now (some_left c.loop-left.left.now c.loop-left-test.ensures) c.in-Ok.reading c.in-Ok.ensures

onward : (g : Over) (c : In-Ok g)
    → let next = c.in-Ok.reading.next in (0 < next) × (next ≤ length c.loop-left.left.now)
onward g c =
    next_onward c.loop-left.left.now c.in-Ok.reading (some_left c.loop-left.left.now c.loop-left-test.ensures) c.in-Ok.ensures

-- or that of a refusal alone
unread : (g : Over) (c : In-Err g)
    → lines_left c.loop-left.number c.loop-left.left.now ≡ refusal_line c.loop-left.number (read_refusal c.in-Err.refusal ∷ [])
unread g c =
    lines_refused c.loop-left.number c.loop-left.left.now (some_left c.loop-left.left.now c.loop-left-test.ensures) c.in-Err.refusal
    c.in-Err.ensures

pub loop-left-init : goal.loop-left-init
loop-left-init g c = record { count = omega arith; room = c.requires; carries = λ exit taken. taken }

pub put_joint-requires : goal.put_joint-requires
put_joint-requires g c = g.met.S.Sink.room_first _ _ _ (rw (read g (goal.at.put_joint-requires g c).In-Ok) at c.loop-left.invariant.room)

pub loop-left-smaller : goal.loop-left-smaller
loop-left-smaller g c =
    let left = c.loop-left.left.now in
    rw (left_after left c.in-Ok.reading.next)
    (omega (arith, onward g (goal.at.loop-left-smaller g c).In-Ok, length-drop c.in-Ok.reading.next left))

pub loop-left-preserved : goal.loop-left-preserved
loop-left-preserved g c =
    let sink = g.met.S.Sink in
    let head = c.loop-left.invariant in
    let left = c.loop-left.left.now in
    let next = c.in-Ok.reading.next in
    let here = (goal.at.loop-left-preserved g c).In-Ok in
    subst (λ (rest : List ℕ).
    WalkHead g.S.Sink.has_room g.S.Sink.takes c.args.sink.now c.args.self.bytes.now c.put_joint.new.sink (c.loop-left.number + 1) rest)
    (sym (left_after left next))
    (record {
      count = omega (arith, head.count, onward g here, length-drop next left);
      room = sink.room_after _ _ _ _ c.put_joint.ensures (rw (read g here) at head.room);
      carries = λ exit taken. head.carries exit (rw (read g here) (sink.takes_both _ _ _ _ _ c.put_joint.ensures taken));
    })

pub put_read_refusal-requires : goal.put_read_refusal-requires
put_read_refusal-requires g c = rw (unread g (goal.at.put_read_refusal-requires g c).In-Err) at c.loop-left.invariant.room

pub returns-in-Err : goal.returns-in-Err
returns-in-Err g c = c.loop-left.invariant.carries _ (rw (unread g (goal.at.returns-in-Err g c).In-Err) c.put_read_refusal.ensures)

pub returns : goal.returns
returns g c =
    let none = no_lines_left c.loop-left.number c.loop-left.left.now c.loop-left-test.ensures in
    c.loop-left.invariant.carries _ (rw none (g.met.S.Sink.takes_none c.loop-left.sink))
