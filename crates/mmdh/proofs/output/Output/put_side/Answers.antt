use Rattle.mmdh.proofs.Texts.{side_starts}
use Rattle.mmdh.proofs.output.Output.put_side.Goals as goal

pub loop-i-init : goal.loop-i-init
loop-i-init c = side_starts _ _ _ _
