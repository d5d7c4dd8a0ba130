use Rattle.books.proofs.Showing.{showing}
use Rattle.books.proofs.Sound.row.Goals as goal

pub level_of-requires : goal.level_of-requires
level_of-requires c = search showing
