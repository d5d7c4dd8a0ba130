use Rattle.slots.proofs.Cases.{Seeking}
use Rattle.slots.proofs.Layout.seek.Given as goal

abbrev pub invariant-loop-k : goal.invariant-loop-k
invariant-loop-k l = Seeking l.table l.self.width l.code l.k-end l.k
