use Rattle.ladder.proofs.Writes.{Writing}
use Rattle.ladder.proofs.words.write_side.Given as goal

abbrev pub invariant-loop-i : goal.invariant-loop-i
invariant-loop-i l = Writing l.base l.row-items l.initial.block l.block l.i
