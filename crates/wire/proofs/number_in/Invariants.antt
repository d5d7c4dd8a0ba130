use Rattle.wire.proofs.Cases.{Read}
use Rattle.wire.proofs.number_in.Given as goal

abbrev pub invariant-loop-i : goal.invariant-loop-i
invariant-loop-i g l = Read l.s l.at g.row.N l.v l.i
