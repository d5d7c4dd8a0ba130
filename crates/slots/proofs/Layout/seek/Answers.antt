use Rattle.slots.proofs.Cases.{seek_here, seek_end}
use Rattle.slots.proofs.Layout.seek.Goals as goal

pub returns-then-table-self : goal.returns-then-table-self
returns-then-table-self c = seek_here _ _ _ _ _ _ c.count-k-end.ensures c.args.self.wide c.loop-k.invariant c.loop-k-test.true c.if-table-self.true

pub returns : goal.returns
returns c = seek_end _ _ _ _ _ _ c.count-k-end.ensures c.args.self.wide c.loop-k.invariant c.loop-k-test.false
