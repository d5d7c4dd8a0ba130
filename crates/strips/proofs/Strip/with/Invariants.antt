use Rattle.strips.proofs.Blocks.{Storing}
use Rattle.strips.proofs.Strip.with.Given as goal

abbrev pub invariant-loop-k : goal.invariant-loop-k
invariant-loop-k l = Storing l.m l.initial.self l.fn.shape l.self l.k
