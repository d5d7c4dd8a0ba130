use Rattle.feed.proofs.Framing.{frames}
use Rattle.feed.proofs.Frame.onward.Goals as goal

pub overflow_add-result-2 : goal.overflow_add-result-2
overflow_add-result-2 c = search frames

pub overflow_add-result-3 : goal.overflow_add-result-3
overflow_add-result-3 c = search frames

pub returns : goal.returns
returns c = search frames
