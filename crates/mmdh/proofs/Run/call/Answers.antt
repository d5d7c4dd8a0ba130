use Rattle.feed.specs.Steps.{lent}
use Rattle.mmdh.proofs.Laws.{call_fits}
use Rattle.mmdh.proofs.Run.call.Goals as goal

pub consume-requires : goal.consume-requires
consume-requires c =
    let given = c.arrive-given in
    call_fits c.args.self.now given.result (lent given.new.books given.new.strips) (rw c.left.ensures at given.ensures)
