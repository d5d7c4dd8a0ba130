use borrow.Author.Rules.{rules}
use Rattle.mmdh.proofs.Texts.{row_put}
use Rattle.mmdh.proofs.output.Output.put_row.Goals as goal

pub returns : goal.returns
returns c = search (rules, row_put)
