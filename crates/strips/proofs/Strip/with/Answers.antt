use Rattle.std.proofs.Common.{◌≤◌}
use Rattle.strips.proofs.Lists.{span_few, span_inside}
use Rattle.strips.proofs.Strip.with.Goals as goal

pub value_in-requires : goal.value_in-requires
value_in-requires c =
    let l : c.args.shape.first ≤ c.loop-k.k = c.loop-k.auto.k in
    (span_few _ _ _ _ c.requires l c.loop-k-test.true, span_inside _ _ _ _ c.requires l c.loop-k-test.true)
