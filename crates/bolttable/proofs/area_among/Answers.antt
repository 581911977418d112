-- `area_among` meets its contract. The invariant: the sizes left, with what was found before them, come to what all of them do.
-- Assumes nothing.
use mathlib.Core.Path.{◌≡◌, sym, ◌∙◌}
use mathlib.Core.Bool.{Bool, true, false, cond}
use mathlib.Core.List.{◌++◌, ◌∷◌, []}
use borrow.Author.Tests.{eq-eqb, ne_eqb}
use lib.Dec.{eqb}
use lib.ListN.{length, drop}
use Rattle.std.specs.Prelude.{Some, None}
use Rattle.bolttable.specs.Steps.{below_least, all_sizes, area_passed}
use Rattle.bolttable.proofs.Passes.{stops, goes_on, none_left}
use Rattle.bolttable.proofs.Sizes.{next_size, no_size}
use Rattle.bolttable.proofs.area_among.Goals as goal
use Rattle.bolttable.proofs.area_among.Goals.{Else-not-may_follow}

-- a size that may follow leaves the same to be found
on : (c : Else-not-may_follow) (here : Bool) → eqb c.args.diameter c.in-Some.field-0-0.now ≡ here
    → area_passed c.args.diameter c.in-Some.field-0-0.now (cond here (Some c.in-Some.field-0-1.now) c.loop-next.found)
    (drop (length (c.loop-next.yielded ++ ((c.in-Some.field-0-0, c.in-Some.field-0-1) ∷ []))) (all_sizes c.args.diameters.now c.args.areas.now))
    ≡ area_passed c.args.diameter below_least None (all_sizes c.args.diameters.now c.args.areas.now)
on c here is =
    let l = c.loop-next in
    let left = next_size _ _ l.yielded _ _ c.next.new.self (cc) (cc) l.yielded_by c.next.ensures.steps c.in-Some.is in
    rw (← is) (sym (goes_on _ l.last l.found left (sym c.may_follow.ensures ∙ c.if-not-may_follow.false)) ∙ l.invariant)

pub returns-then-not-may_follow : goal.returns-then-not-may_follow
returns-then-not-may_follow c =
    let l = c.loop-next in
    let left = next_size _ _ l.yielded _ _ c.next.new.self (cc) (cc) l.yielded_by c.next.ensures.steps c.in-Some.is in
    sym (stops _ l.last l.found left (sym c.may_follow.ensures ∙ c.if-not-may_follow.true)) ∙ l.invariant

pub loop-next-preserved-then-diameter-next : goal.loop-next-preserved-then-diameter-next
loop-next-preserved-then-diameter-next c =
    on (goal.at.loop-next-preserved-then-diameter-next c).Else-not-may_follow true (eq-eqb _ _ c.if-diameter-next.true)

pub loop-next-preserved : goal.loop-next-preserved
loop-next-preserved c = on (goal.at.loop-next-preserved c).Else-not-may_follow false (ne_eqb _ _ c.if-diameter-next.false)

pub returns : goal.returns
returns c =
    let l = c.loop-next in
    let end = no_size _ _ l.yielded _ _ c.next.new.self (cc) (cc) l.yielded_by c.next.ensures.steps c.in-None.is in
    sym (none_left _ l.last l.found end) ∙ l.invariant
