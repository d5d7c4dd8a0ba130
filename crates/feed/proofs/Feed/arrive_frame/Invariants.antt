use Rattle.feed.specs.Steps.{lent}
use Rattle.feed.proofs.Framing.{Goes}
use Rattle.feed.proofs.Feed.arrive_frame.Given as goal

abbrev pub invariant-loop : goal.invariant-loop
invariant-loop l = Goes l.allowed l.counter l.initial.frame (lent l.initial.books l.initial.strips) l.bytes l.time l.frame (lent l.books l.strips)
