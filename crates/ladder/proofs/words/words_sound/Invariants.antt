use Rattle.ladder.proofs.Judges.{Looking}
use Rattle.ladder.proofs.words.words_sound.Given as goal

abbrev pub invariant-loop-i : goal.invariant-loop-i
invariant-loop-i l = Looking l.base l.block l.used l.lows l.i
