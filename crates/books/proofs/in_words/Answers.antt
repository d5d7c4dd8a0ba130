use mathlib.Core.Path.{◌≡◌}
use Rattle.books.proofs.Turning.{turning, ready_turn, ready_drops}
use Rattle.books.proofs.in_words.Goals as goal

pub walk-requires : goal.walk-requires
walk-requires c = search turning

pub returns-then-not-is_ready : goal.returns-then-not-is_ready
returns-then-not-is_ready c = search turning

pub returns : goal.returns
returns c =
    let w = c.in-Some.words.now in
    let s = c.sides_in-sides in
    let same : w ≡ c.args.words.now = c.in-Some.ensures.cases.same in
    rw (← same) (
      ready_turn c.args.own c.is_ready.result w s.result.rows s.result.counts c.is_ready.ensures c.if-not-is_ready.false s.ensures.0 s.ensures.1 _ _ c.args.time _ _ c.walk.ensures.0,
      ready_drops c.args.own c.is_ready.result w s.result.rows s.result.counts c.is_ready.ensures c.if-not-is_ready.false s.ensures.0 s.ensures.1 _ c.args.time _ c.walk.ensures.1,
    )
