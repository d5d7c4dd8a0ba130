use Rattle.ladder.specs.Code.Loading.{rows_at}
use Rattle.books.specs.Code.Rows.{side_no}
use Rattle.mmdh.proofs.Texts.{Siding}
use Rattle.mmdh.proofs.output.Output.put_side.Given as goal

abbrev pub invariant-loop-i : goal.invariant-loop-i
invariant-loop-i l = Siding l.words (side_no l.way) (rows_at l.way) l.i l.initial.self l.self
