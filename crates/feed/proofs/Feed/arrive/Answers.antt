use Rattle.feed.proofs.Rows.{rows}
use Rattle.feed.proofs.Feed.arrive.Goals as goal

pub returns : goal.returns
returns c = search rows
