use Rattle.slots.proofs.Cases.{zeroed}
use Rattle.slots.proofs.Layout.clear.Goals as goal

pub returns : goal.returns
returns c = zeroed _ _ _ _ _ c.count.ensures (c.fill.ensures.after (λ y e. e))
