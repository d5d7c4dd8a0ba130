use Rattle.feed.proofs.Framing.{frames}
use Rattle.feed.proofs.Feed.arrive_frame.Goals as goal

pub returns-then-frame-gt2 : goal.returns-then-frame-gt2
returns-then-frame-gt2 c = search frames

pub loop-preserved : goal.loop-preserved
loop-preserved c = search frames
