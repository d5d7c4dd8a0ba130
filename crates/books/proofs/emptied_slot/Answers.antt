use Rattle.books.proofs.Turning.{turning}
use Rattle.books.proofs.emptied_slot.Goals as goal

pub returns : goal.returns
returns c = search turning
