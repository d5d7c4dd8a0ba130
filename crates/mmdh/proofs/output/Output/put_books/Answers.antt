use Rattle.mmdh.proofs.Texts.{books_start}
use Rattle.mmdh.proofs.output.Output.put_books.Goals as goal

pub loop-book-init : goal.loop-book-init
loop-book-init c = books_start _ _
