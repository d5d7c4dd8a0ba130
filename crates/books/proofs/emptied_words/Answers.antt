use Rattle.books.proofs.Turning.{turning}
use Rattle.books.proofs.emptied_words.Goals as goal

pub returns-then-not-is_ready : goal.returns-then-not-is_ready
returns-then-not-is_ready c = search turning

pub returns : goal.returns
returns c = search turning
