use Rattle.mmdh.proofs.Turns.{drain_goes}
use Rattle.mmdh.proofs.Run.drain.Goals as goal

pub loop-self-preserved : goal.loop-self-preserved
loop-self-preserved c = drain_goes _ _ _ c.loop-self.invariant c.loop-self-test.true c.call.ensures
