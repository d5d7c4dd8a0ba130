use Rattle.ladder.proofs.Judges.{judges}
use Rattle.ladder.proofs.words.words_sound.Goals as goal

pub loop-i-init : goal.loop-i-init
loop-i-init c = search judges

pub loop-i-preserved : goal.loop-i-preserved
loop-i-preserved c = search judges

pub returns-then-used-n : goal.returns-then-used-n
returns-then-used-n c = search judges

pub returns-else-used-n : goal.returns-else-used-n
returns-else-used-n c = search judges
