-- What the public operations of a feed say, each of any feed, any table, any bytes and any clock reading: their contracts, by name. Assumes nothing.
use Rattle.std.specs.Prelude.{ℕ, ◌≡◌, List}
use Rattle.feed.specs.Feeds.{new_given, badge_of}
use Rattle.feed.specs.Events.{Tables, Connect, Arrive, Cut, Overrun}
use Rattle.feed.specs.Steps.{state_of, out_of, outcome}
use Rattle.feed.specs.Frames.{framed_of, framed}
use Rattle.feed.specs.Reasons.{why}
use Rattle.feed.specs.declared.Feed.{Feed}
use Rattle.feed.specs.declared.Given.{Given}
use Rattle.feed.specs.declared.Frame.{Frame}
use Rattle.feed.specs.declared.Link.{Link}
use Rattle.feed.specs.declared.Badge.{Badge}

-- Feed::new
abbrev pub NewSays : ℕ → Given → Type 0
NewSays limit r = r ≡ new_given limit

-- Feed::connect: it is lent no table, so it is said with every one
abbrev pub ConnectSays : Feed → Link → ℕ → Given → Type 0
ConnectSays f link time r = (x : Tables) → out_of r x ≡ outcome (state_of f x) (Connect link time)

-- Feed::arrive, and Feed::arrive_cut: answer, bytes used, feed, and every word of every table after it
abbrev pub ArriveSays : Feed → Tables → List ℕ → ℕ → Given → Tables → Type 0
ArriveSays f x bytes time r after = out_of r after ≡ outcome (state_of f x) (Arrive bytes time)

abbrev pub CutSays : Feed → Tables → ℕ → ℕ → List ℕ → ℕ → Given → Tables → Type 0
CutSays f x seq internal m time r after = out_of r after ≡ outcome (state_of f x) (Cut seq internal m time)

-- Feed::overrun: lent no table, so it is said with every one
abbrev pub OverrunSays : Feed → ℕ → Given → Type 0
OverrunSays f time r = (x : Tables) → out_of r x ≡ outcome (state_of f x) (Overrun time)

-- Feed::arrive_frame: last answer, units accepted, bytes used, feed, and every word of every table after it
abbrev pub FrameSays : Feed → Tables → List ℕ → ℕ → ℕ → Frame → Tables → Type 0
FrameSays f x bytes allowed time r after = framed_of r after ≡ framed (state_of f x) bytes allowed time

-- Feed::badge
abbrev pub BadgeSays : Feed → ℕ → Badge → Type 0
BadgeSays f time r = r ≡ badge_of f time

-- Feed::why
abbrev pub WhySays : Feed → ℕ → ℕ → Type 0
WhySays f time r = r ≡ why f.phase f.heard f.limit time
