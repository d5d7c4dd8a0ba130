use Rattle.mmdh.proofs.Texts.{Digiting}
use Rattle.mmdh.proofs.output.put_digits.Given as goal

abbrev pub invariant-loop-from : goal.invariant-loop-from
invariant-loop-from l = Digiting l.n l.rest l.from l.digits
