use Prim.Native.Nat.{◌+◌, ◌-◌}
use Rattle.wire.proofs.Cases.{cases, read_more}
use Rattle.wire.proofs.number_in.Goals as goal

pub loop-i-init : goal.loop-i-init
loop-i-init g c = search cases

pub overflow_mul-v : goal.overflow_mul-v
overflow_mul-v g c = search cases

pub overflow_add-v : goal.overflow_add-v
overflow_add-v g c = search cases

pub loop-i-preserved : goal.loop-i-preserved
loop-i-preserved g c =
    let byte = (c.type_inv.s (c.args.at + (c.loop-i.i - 1))).fits in
    read_more _ _ _ _ _ _ c.loop-i.invariant c.loop-i-test.true c.from.ensures (rw c.from.ensures byte)

pub returns : goal.returns
returns g c = search cases
