use Rattle.ladder.proofs.Judges.{judges}
use Rattle.ladder.proofs.words.is_side_sound.Goals as goal

pub returns-then-n-in_order : goal.returns-then-n-in_order
returns-then-n-in_order c = search judges

pub returns-else-n-in_order : goal.returns-else-n-in_order
returns-else-n-in_order c = search judges
