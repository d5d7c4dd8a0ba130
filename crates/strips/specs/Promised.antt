-- What reading a strip says, of any words: its contract, by name. Assumes nothing.
use Rattle.std.specs.Prelude.{ℕ, ◌≡◌, List}
use Rattle.strips.specs.Reading.{StripRead, read_strip}

abbrev pub StripSays : List ℕ → ℕ → StripRead → Type 0
StripSays t code r = r ≡ read_strip code t
