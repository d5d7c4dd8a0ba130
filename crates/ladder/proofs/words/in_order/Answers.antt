use Rattle.ladder.proofs.Judges.{judges}
use Rattle.ladder.proofs.words.in_order.Goals as goal

pub loop-i-init : goal.loop-i-init
loop-i-init c = search judges

pub loop-i-preserved : goal.loop-i-preserved
loop-i-preserved c = search judges

pub returns : goal.returns
returns c = search judges
