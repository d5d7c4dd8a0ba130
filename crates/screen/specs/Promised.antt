-- What the C calls say, each of any numbers, any words, any bytes and any clock reading: their contracts, by name. Assumes nothing.
use Rattle.std.specs.Prelude.{ℕ, ◌≡◌, List}
use Rattle.books.specs.Reading.{read_row, read_side}
use Rattle.strips.specs.Reading.{read_strip}
use Rattle.feed.specs.Feeds.{new_given, plain_badge}
use Rattle.feed.specs.Events.{Tables, Connect}
use Rattle.feed.specs.Steps.{state_of, outcome}
use Rattle.feed.specs.Reasons.{plain_why}
use Rattle.password.specs.Rule.{plain_verdict}
use Rattle.screen.specs.Plain.{plain_given, plain_out, plain_framed_of, link_of, feed_of, plain_hearing, plain_row, plain_side, plain_strip, version}
use Rattle.screen.specs.Calls.{Connects, Arrives, ArrivesCut, hands_back, frames_back, links_back, hears_back}
use Rattle.screen.specs.declared.MmdhFeed.{MmdhFeed}
use Rattle.screen.specs.declared.MmdhGiven.{MmdhGiven}
use Rattle.screen.specs.declared.MmdhFrame.{MmdhFrame}
use Rattle.screen.specs.declared.MmdhLine.{MmdhLine}
use Rattle.screen.specs.declared.MmdhLinked.{MmdhLinked}
use Rattle.screen.specs.declared.MmdhHeard.{MmdhHeard}
use Rattle.screen.specs.declared.MmdhRow.{MmdhRow}
use Rattle.screen.specs.declared.MmdhSide.{MmdhSide}
use Rattle.screen.specs.declared.MmdhStrip.{MmdhStrip}

-- mmdh_new
abbrev pub NewSays : ℕ → MmdhGiven → Type 0
NewSays limit r = r ≡ plain_given (new_given limit)

-- mmdh_connect: it is lent no words, so it is said with all of them
abbrev pub ConnectSays : MmdhFeed → ℕ → ℕ → MmdhGiven → Type 0
ConnectSays feed resuming time r = (x : Tables) → plain_out r x ≡ hands_back feed x (Connects resuming time)

-- mmdh_arrive, and mmdh_arrive_cut
abbrev pub ArriveSays : MmdhFeed → Tables → List ℕ → ℕ → MmdhGiven → Tables → Type 0
ArriveSays feed x bytes time r after = plain_out r after ≡ hands_back feed x (Arrives bytes time)

abbrev pub CutSays : MmdhFeed → Tables → ℕ → ℕ → List ℕ → ℕ → MmdhGiven → Tables → Type 0
CutSays feed x seq internal m time r after = plain_out r after ≡ hands_back feed x (ArrivesCut seq internal m time)

-- mmdh_arrive_frame
abbrev pub FrameSays : MmdhFeed → Tables → List ℕ → ℕ → ℕ → MmdhFrame → Tables → Type 0
FrameSays feed x bytes allowed time r after = plain_framed_of r after ≡ frames_back feed x bytes allowed time

-- mmdh_line_connect: it is lent no words, so it is said with all of them
abbrev pub LinkSays : MmdhLine → List ℕ → ℕ → ℕ → MmdhLinked → Type 0
LinkSays line hold resuming time r = (x : Tables) → r ≡ links_back line hold (outcome (state_of (feed_of line.feed) x) (Connect (link_of resuming) time)).given

-- mmdh_line_scrap: with every byte of the buffer
abbrev pub ScrapSays : MmdhLine → Tables → List ℕ → List ℕ → ℕ → ℕ → MmdhHeard → Tables → List ℕ → Type 0
ScrapSays line x hold scrap allowed time r after left = plain_hearing r after left ≡ hears_back line x hold scrap allowed time

-- mmdh_badge
abbrev pub BadgeSays : ℕ → ℕ → ℕ → ℕ → ℕ → Type 0
BadgeSays phase heard limit time r = r ≡ plain_badge phase heard limit time

-- mmdh_why
abbrev pub WhySays : ℕ → ℕ → ℕ → ℕ → ℕ → Type 0
WhySays phase heard limit time r = r ≡ plain_why phase heard limit time

-- mmdh_read_row
abbrev pub RowSays : List ℕ → ℕ → ℕ → ℕ → MmdhRow → Type 0
RowSays t code side rank r = r ≡ plain_row (read_row code side rank t)

-- mmdh_read_side
abbrev pub SideSays : List ℕ → ℕ → ℕ → MmdhSide → Type 0
SideSays t code side r = r ≡ plain_side (read_side code side t)

-- mmdh_read_strip
abbrev pub StripSays : List ℕ → ℕ → MmdhStrip → Type 0
StripSays t code r = r ≡ plain_strip (read_strip code t)

-- mmdh_password: it is lent nothing to write to
abbrev pub PasswordSays : ℕ → List ℕ → List ℕ → List ℕ → ℕ → Type 0
PasswordSays edition new lengths history r = r ≡ plain_verdict edition new lengths history

-- mmdh_version
abbrev pub VersionSays : ℕ → Type 0
VersionSays r = r ≡ version
