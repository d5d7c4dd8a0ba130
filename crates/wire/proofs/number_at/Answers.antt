use mathlib.Core.Path.{ap, ◌∙◌}
use Rattle.std.specs.Option.{unwrap_or}
use native.Mathlib.Omega.{arith}
use Rattle.wire.proofs.Cases.{cases, read_first, rest_is, read_below}
use Rattle.wire.proofs.number_at.Goals as goal

pub loop-i-init : goal.loop-i-init
loop-i-init g c = search cases

pub overflow_mul-v : goal.overflow_mul-v
overflow_mul-v g c = search cases

pub overflow_add-v : goal.overflow_add-v
overflow_add-v g c = search cases

pub loop-i-preserved : goal.loop-i-preserved
loop-i-preserved g c =
    let is = c.from.ensures ∙ c.unwrap_or.ensures ∙ ap (λ o. unwrap_or o 0) c.copied.ensures ∙ c.get.ensures.lookup.4 (omega arith) 0 in
    read_first _ _ _ _ _ c.loop-i.invariant c.loop-i-test.true is (rw c.from.ensures c.unwrap_or.type_inv)

pub returns : goal.returns
returns g c =
    (rest_is _ _ _ _ _ _ c.behind-rest.ensures c.loop-i.invariant c.loop-i-test.false, read_below _ _ _ _ _ c.loop-i.invariant c.loop-i-test.false)
