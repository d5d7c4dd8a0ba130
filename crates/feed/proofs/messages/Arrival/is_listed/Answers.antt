use Rattle.feed.proofs.Parts.{strip_right}
use Rattle.feed.proofs.messages.Arrival.is_listed.Goals as goal

pub is_listed-requires-in-Strip : goal.is_listed-requires-in-Strip
is_listed-requires-in-Strip c = search strip_right
