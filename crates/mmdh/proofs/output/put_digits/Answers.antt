use Rattle.mmdh.proofs.Texts.{digits_go}
use Rattle.mmdh.proofs.output.put_digits.Goals as goal

pub loop-from-preserved : goal.loop-from-preserved
loop-from-preserved c = digits_go _ _ _ _ c.loop-from.invariant c.loop-from-test.true c.if-rest-eq0.false
