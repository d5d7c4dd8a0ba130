use Rattle.feed.specs.Steps.{lent}
use Rattle.lines.specs.Scraps.{heard_of, hearing, silent}
use Rattle.lines.proofs.Courses.{Goes}
use Rattle.lines.proofs.Line.scrap.Given as goal

abbrev pub invariant-loop : goal.invariant-loop
invariant-loop l =
    Goes l.allowed (hearing (silent 0 l.fn.self) (lent l.initial.books l.initial.strips) l.initial.hold) l.scrap l.time l.counter
    (hearing (heard_of l.heard) (lent l.books l.strips) l.hold)
