use Rattle.ladder.proofs.Writes.{writes}
use Rattle.ladder.proofs.BookSides.write.Goals as goal

pub returns : goal.returns
returns c = search writes
