use Rattle.mmdh.specs.Code.Runs.{Turned}
use Rattle.mmdh.proofs.Run.follow.Given as goal

abbrev pub invariant-loop : goal.invariant-loop
invariant-loop l = Turned l.counter l.initial.self l.self
