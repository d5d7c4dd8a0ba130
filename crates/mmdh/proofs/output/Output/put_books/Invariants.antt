use Rattle.mmdh.proofs.Texts.{Booking}
use Rattle.mmdh.proofs.output.Output.put_books.Given as goal

abbrev pub invariant-loop-book : goal.invariant-loop-book
invariant-loop-book l = Booking l.book-items l.book-index l.initial.self l.self
