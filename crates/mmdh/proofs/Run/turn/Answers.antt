use Rattle.mmdh.proofs.Turns.{turn_refilled}
use Rattle.mmdh.proofs.Run.turn.Goals as goal

pub returns-then-self-eq3 : goal.returns-then-self-eq3
returns-then-self-eq3 c = turn_refilled _ _ c.call.ensures _ c.if-self-eq3.true c.more.ensures
