use Rattle.books.proofs.Turning.{turning}
use Rattle.books.proofs.in_slot.Goals as goal

pub returns : goal.returns
returns c = search turning
