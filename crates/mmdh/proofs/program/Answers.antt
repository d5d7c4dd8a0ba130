use Rattle.mmdh.proofs.Whole.{wrote}
use Rattle.mmdh.proofs.program.Goals as goal

pub returns : goal.returns
returns c = wrote _ _ _ c.new-run.ensures c.follow.ensures c.drain.ensures _ _ c.requires c.put_all.ensures
