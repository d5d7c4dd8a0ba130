use Rattle.books.proofs.Turning.{turning}
use Rattle.books.proofs.is_listed.Goals as goal

pub returns-then-not-is_code : goal.returns-then-not-is_code
returns-then-not-is_code c = search turning

pub returns : goal.returns
returns c = search turning
