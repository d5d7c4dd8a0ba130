use Rattle.mmdh.proofs.Turns.{Draining, to_do}
use Rattle.mmdh.proofs.Run.drain.Given as goal

abbrev pub invariant-loop-self : goal.invariant-loop-self
invariant-loop-self l = Draining l.initial.self l.self

abbrev pub decreases-loop-self : goal.decreases-loop-self
decreases-loop-self l = to_do l.self
