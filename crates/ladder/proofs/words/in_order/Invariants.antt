use Prim.Native.Nat.{◌-◌}
use Rattle.ladder.proofs.Judges.{Ordering}
use Rattle.ladder.proofs.words.in_order.Given as goal

abbrev pub invariant-loop-i : goal.invariant-loop-i
invariant-loop-i l = Ordering l.base l.block l.way l.found (l.i - 1)
