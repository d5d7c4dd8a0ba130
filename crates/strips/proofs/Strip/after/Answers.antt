use Rattle.strips.proofs.Lists.{spans}
use Rattle.strips.proofs.Blocks.{after_told}
use Rattle.strips.proofs.Strip.after.Goals as goal

pub with-requires : goal.with-requires
with-requires c = search spans

pub returns-in-Some : goal.returns-in-Some
returns-in-Some c = search (spans, after_told)
