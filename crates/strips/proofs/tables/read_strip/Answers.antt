use Rattle.strips.proofs.Showing.{showing}
use Rattle.strips.proofs.tables.read_strip.Goals as goal

pub returns : goal.returns
returns c = search (showing, c.in_ok-strip.was)
