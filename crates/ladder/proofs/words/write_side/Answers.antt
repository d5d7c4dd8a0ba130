use Rattle.ladder.proofs.Writes.{writes}
use Rattle.ladder.proofs.words.write_side.Goals as goal

pub loop-i-init : goal.loop-i-init
loop-i-init c = search writes

pub loop-i-preserved : goal.loop-i-preserved
loop-i-preserved c = search writes
