use Rattle.books.proofs.Turning.{turning}
use Rattle.books.proofs.take.Goals as goal

pub returns-then-entries-eq0 : goal.returns-then-entries-eq0
returns-then-entries-eq0 c = search turning

pub returns : goal.returns
returns c = search turning
