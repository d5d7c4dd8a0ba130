-- What the calls that change a feed hand back, in plain numbers. Assumes nothing.
use Rattle.std.specs.Prelude.{ℕ, cond, List, [], ◌∷◌, length, eqb}
use Rattle.ground.specs.Choice.{first}
use Rattle.feed.specs.Events.{Tables, Event, Connect, Arrive, Cut}
use Rattle.feed.specs.Steps.{state_of, outcome}
use Rattle.feed.specs.Frames.{framed}
use Rattle.feed.specs.declared.Given.{Given}
use Rattle.lines.specs.Scraps.{hears, links}
use Rattle.lines.specs.declared.Linked.{Linked}
use Rattle.screen.specs.Plain.{link_of, feed_of, PlainOut, plain_outcome, PlainFramed, plain_framed_of, plain_framed, yes, line_of, plain_line, PlainHearing, plain_hearing, plain_hears}
use Rattle.screen.specs.declared.MmdhFeed.{MmdhFeed}
use Rattle.screen.specs.declared.MmdhFrame.{MmdhFrame}
use Rattle.screen.specs.declared.MmdhLine.{MmdhLine}
use Rattle.screen.specs.declared.MmdhLinked.{MmdhLinked}
use Rattle.screen.specs.declared.MmdhHeard.{MmdhHeard}

-- the calls that change a feed, by what is handed to them
pub data Call : Type 0 where
  Connects : (resuming time : ℕ) → Call
  Arrives : (bytes : List ℕ) (time : ℕ) → Call
  ArrivesCut : (seq internal : ℕ) (message : List ℕ) (time : ℕ) → Call

abbrev pub event_of : Call → Event
event_of (Connects resuming time) = Connect (link_of resuming) time
event_of (Arrives bytes time) = Arrive bytes time
event_of (ArrivesCut seq internal m time) = Cut seq internal m time

-- what a call hands back for any seven numbers, with the words after it: mmdh_connect, mmdh_arrive, mmdh_arrive_cut, by their contracts
abbrev pub hands_back : MmdhFeed → Tables → Call → PlainOut
hands_back f x c = plain_outcome (outcome (state_of (feed_of f) x) (event_of c))

-- mmdh_arrive_frame before its first unit: the seven numbers as they were handed in, whatever they are ..
abbrev pub plain_opened : MmdhFeed → MmdhFrame
plain_opened f = record { answer = 0; accepted = 0; used = 0; feed = f; dropped = 0 }

-- .. which is all of it where 0 units are allowed
unfoldable pub frames_back : MmdhFeed → Tables → List ℕ → ℕ → ℕ → PlainFramed
frames_back f x bytes allowed time = cond (eqb allowed 0) (plain_framed_of (plain_opened f) x) (plain_framed (framed (state_of (feed_of f) x) bytes allowed time))

-- mmdh_line_connect: one that is refused hands the line back as it was handed in, whatever its numbers
unfoldable pub linked_back : MmdhLine → Linked → MmdhLinked
linked_back l r = cond (eqb r.answer 0) (record { answer = 0; line = plain_line r.line }) (record { answer = r.answer; line = l })

abbrev pub links_back : MmdhLine → List ℕ → Given → MmdhLinked
links_back l hold g = linked_back l (links g (line_of l) hold)

-- mmdh_line_scrap where nothing is looked at: the line as it was handed in, whatever its numbers
abbrev pub plain_silent : ℕ → MmdhLine → MmdhHeard
plain_silent used l = record { said = 0; answer = 0; accepted = 0; used = used; line = l; dropped = 0 }

-- where 0 units are allowed nothing is used, and a line that drops uses all of the scrap up
unfoldable pub hears_back : MmdhLine → Tables → List ℕ → List ℕ → ℕ → ℕ → PlainHearing
hears_back l x hold scrap allowed time =
    first
    ((eqb allowed 0, plain_hearing (plain_silent 0 l) x hold)
    ∷ (yes l.dropping, plain_hearing (plain_silent (length scrap) l) x hold)
    ∷ [])
    (plain_hears (hears (line_of l) x hold scrap allowed time))
