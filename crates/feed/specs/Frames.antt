-- A whole frame's units at once (document 02, request 3). Assumes nothing.
use Rattle.std.specs.Prelude.{ℕ, zero, suc, ◌+◌, cond, List, drop}
use Rattle.feed.specs.Events.{Tables, State, Arrive}
use Rattle.feed.specs.Steps.{accepted, Outcome, state_of, outcome}
use Rattle.feed.specs.declared.Feed.{Feed}
use Rattle.feed.specs.declared.Frame.{Frame}

-- what a frame hands back, with every word of every table after it
pub record Framed : Type 0 where
  pub frame : Frame
  pub tables : Tables

abbrev pub framed_of : Frame → Tables → Framed
framed_of r x = record { frame = r; tables = x }

-- before the first unit: "Allowing 0 answers 0 and changes nothing"
abbrev pub opened : Feed → Frame
opened f = record { answer = 0; accepted = 0; used = 0; feed = f; dropped = 0 }

-- a single arrival at the bytes that the ones before have left: "how many it accepted, the bytes used and the last answer"; document 02, request 6:
-- and the rows dropped by all of them
unfoldable pub onward : List ℕ → ℕ → Framed → Framed
onward bytes time x =
    let o : Outcome = outcome (state_of x.frame.feed x.tables) (Arrive (drop x.frame.used bytes) time) in
    record {
      frame = record {
        answer = o.given.answer;
        accepted = cond (accepted o.given.answer) (x.frame.accepted + 1) x.frame.accepted;
        used = x.frame.used + o.given.used;
        feed = o.given.feed;
        dropped = x.frame.dropped + o.given.dropped;
      };
      tables = o.tables;
    }

-- "It stops after the allowed number, or at More, or at the first refusal": from where it stands, at most so many units more
unfoldable pub through : ℕ → List ℕ → ℕ → Framed → Framed
through zero bytes time x = x
through (suc left) bytes time x =
    let y : Framed = onward bytes time x in
    cond (accepted y.frame.answer) (through left bytes time y) y

-- "one call per repaint, working through at most as many units as the caller allows"
abbrev pub framed : State → List ℕ → ℕ → ℕ → Framed
framed s bytes allowed time = through allowed bytes time (framed_of (opened s.feed) s.tables)
