use Rattle.strips.proofs.Turning.{turning}
use Rattle.strips.proofs.tables.take.Goals as goal

pub returns-in_ok-strip-in-Held : goal.returns-in_ok-strip-in-Held
returns-in_ok-strip-in-Held c = search (turning, c.in_ok-strip-in-Held.was)

pub returns-in-Free : goal.returns-in-Free
returns-in-Free c = search turning
