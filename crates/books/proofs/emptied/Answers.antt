use Rattle.books.proofs.Turning.{turning}
use Rattle.books.proofs.emptied.Goals as goal

pub returns-in_default : goal.returns-in_default
returns-in_default c = search turning

pub emptied_slot-requires : goal.emptied_slot-requires
emptied_slot-requires c = search turning

pub returns-in-Held : goal.returns-in-Held
returns-in-Held c = search turning
