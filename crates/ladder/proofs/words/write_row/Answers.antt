use Rattle.ladder.proofs.Writes.{writes}
use Rattle.ladder.proofs.words.write_row.Goals as goal

pub returns : goal.returns
returns c = search writes
