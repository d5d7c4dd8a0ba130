use Rattle.books.proofs.Showing.{showing}
use Rattle.books.proofs.asked.Goals as goal

pub returns-then-not-is_code : goal.returns-then-not-is_code
returns-then-not-is_code c = search showing

pub returns : goal.returns
returns c = search showing
