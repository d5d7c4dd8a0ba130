-- What the public operations of a line say, each of any line, any table, any buffer, any bytes and any clock reading: their contracts, by name. Assumes
-- nothing.
use Rattle.std.specs.Prelude.{ℕ, ◌≡◌, List}
use Rattle.feed.specs.Events.{Tables, Connect}
use Rattle.feed.specs.Steps.{state_of, outcome}
use Rattle.feed.specs.declared.Link.{Link}
use Rattle.lines.specs.Scraps.{heard_of, hearing, hears, links}
use Rattle.lines.specs.declared.Line.{Line}
use Rattle.lines.specs.declared.Linked.{Linked}
use Rattle.lines.specs.declared.Heard.{Heard}

-- Line::connect: it is lent no table, so it is said with every one
abbrev pub ConnectSays : Line → List ℕ → Link → ℕ → Linked → Type 0
ConnectSays l hold link time r = (x : Tables) → r ≡ links (outcome (state_of l.feed x) (Connect link time)).given l hold

-- Line::scrap: whether there is an answer, the last one, units accepted, bytes used, the line, every word of every table and every byte of the buffer
abbrev pub ScrapSays : Line → Tables → List ℕ → List ℕ → ℕ → ℕ → Heard → Tables → List ℕ → Type 0
ScrapSays l x hold scrap allowed time r after left = hearing (heard_of r) after left ≡ hears l x hold scrap allowed time
