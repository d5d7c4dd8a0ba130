-- Scraps through a lent holding buffer, and a line's connect (document 02, request 5). Assumes nothing.
use Rattle.std.specs.Prelude.{ℕ, zero, suc, ◌+◌, ◌-◌, Bool, true, false, cond, not, ◌&&◌, is_some, unwrap_or, List, [], ◌∷◌, ◌++◌, length, take, drop, ltb}
use Rattle.ground.specs.Choice.{first}
use Rattle.feed.specs.Events.{Tables, Arrive, Overrun}
use Rattle.feed.specs.Steps.{accepted, Outcome, state_of, outcome}
use Rattle.feed.specs.declared.Given.{Given}
use Rattle.lines.specs.Looks.{least_hold, look}
use Rattle.lines.specs.declared.Look.{Look}
use Rattle.lines.specs.declared.Look.TheVariants.{Waits, TooLong, Finished}
use Rattle.lines.specs.declared.Line.{Line}
use Rattle.lines.specs.declared.Linked.{Linked}
use Rattle.lines.specs.declared.Heard.{Heard as Told}

-- what a scrap comes to: whether there is an answer, the last one (0 where there is none), how many units were accepted, the bytes of the scrap used, the
-- line after it, and the rows dropped by all its units
pub record Heard : Type 0 where
  pub said : Bool
  pub answer : ℕ
  pub accepted : ℕ
  pub used : ℕ
  pub line : Line
  pub dropped : ℕ

-- as the code has it, the answer is there or not
abbrev pub heard_of : Told → Heard
heard_of r = record { said = is_some r.answer; answer = unwrap_or r.answer 0; accepted = r.accepted; used = r.used; line = r.line; dropped = r.dropped }

-- what a scrap's call hands back, with every byte of the buffer after it ..
pub record Holding : Type 0 where
  pub heard : Heard
  pub hold : List ℕ

abbrev pub holding : Heard → List ℕ → Holding
holding r hold = record { heard = r; hold = hold }

-- .. and every word of every table
pub record Hearing : Type 0 where
  pub heard : Heard
  pub tables : Tables
  pub hold : List ℕ

abbrev pub hearing : Heard → Tables → List ℕ → Hearing
hearing r x hold = record { heard = r; tables = x; hold = hold }

-- the bytes that wait, and a scrap behind them
abbrev pub behind : ℕ → List ℕ → List ℕ → List ℕ
behind held hold scrap = take held hold ++ scrap

-- bytes at the front of the buffer: what stands behind them stays
abbrev pub laid : List ℕ → List ℕ → List ℕ
laid s hold = s ++ drop (length s) hold

-- no answer, and so many bytes of the scrap used
abbrev pub silent : ℕ → Line → Heard
silent used l = record { said = false; answer = 0; accepted = 0; used = used; line = l; dropped = 0 }

-- "the rest waits"
abbrev pub waits : Line → List ℕ → List ℕ → Holding
waits l hold scrap =
    holding (silent (length scrap) (record { feed = l.feed; held = l.held + length scrap; dropping = false })) (laid (behind l.held hold scrap) hold)

-- a refusal: nothing waits, and "what follows a refusal is dropped", all that the scrap has left included
abbrev pub refused : Given → ℕ → Heard
refused g left = record { said = true; answer = g.answer; accepted = 0; used = left; line = record { feed = g.feed; held = 0; dropping = true }; dropped = 0 }

-- a unit of n bytes that was accepted, where `held` bytes had waited: what it took of the scrap, what still waits, and by document 02, request 6, the
-- rows that it dropped
abbrev pub accepted_unit : Given → ℕ → ℕ → Heard
accepted_unit g n held = record {
  said = true;
  answer = g.answer;
  accepted = 1;
  used = n - held;
  line = record { feed = g.feed; held = held - n; dropping = false };
  dropped = g.dropped;
}

-- a unit of which a part has waited is put together in the buffer; one that lies whole in the scrap, or has waited whole, is read where it lies
unfoldable pub gathered : ℕ → ℕ → List ℕ → List ℕ → List ℕ
gathered n held hold scrap = cond (ltb 0 held && ltb held n) (laid (take n (behind held hold scrap)) hold) hold

-- behind a unit that has waited whole, what waits moves to the front
abbrev pub moved_up : ℕ → ℕ → List ℕ → List ℕ
moved_up n held hold = laid (drop n (take held hold)) hold

unfoldable pub settled : Given → ℕ → ℕ → ℕ → List ℕ → Holding
settled g n held left hold = cond (accepted g.answer) (holding (accepted_unit g n held) (moved_up n held hold)) (holding (refused g left) hold)

abbrev pub with_tables : Holding → Tables → Hearing
with_tables k x = hearing k.heard x k.hold

-- "finished units go through the feed, the rest waits": one unit at most; "Answers 10 and 11 are tried only when a unit is finished or 22 is due"
unfoldable pub looked : Look → Line → Tables → List ℕ → List ℕ → ℕ → Hearing
looked Waits l x hold scrap time = with_tables (waits l hold scrap) x
looked TooLong l x hold scrap time =
    let o : Outcome = outcome (state_of l.feed x) (Overrun time) in
    hearing (refused o.given (length scrap)) o.tables hold
looked (Finished n) l x hold scrap time =
    let o : Outcome = outcome (state_of l.feed x) (Arrive (take n (behind l.held hold scrap)) time) in
    with_tables (settled o.given n l.held (length scrap) (gathered n l.held hold scrap)) o.tables

-- a line that drops answers nothing and changes nothing, and the scrap is used up
unfoldable pub once : Line → Tables → List ℕ → List ℕ → ℕ → Hearing
once l x hold scrap time =
    cond l.dropping (hearing (silent (length scrap) l) x hold)
    (looked (look (length hold) l.held (behind l.held hold scrap)) l x hold scrap time)

-- once more, at the bytes of the scrap that are left; the rows dropped are those of all its units
unfoldable pub onward : List ℕ → ℕ → Hearing → Hearing
onward scrap time y =
    let z : Hearing = once y.heard.line y.tables y.hold (drop y.heard.used scrap) time in
    hearing
    (record {
      said = z.heard.said;
      answer = z.heard.answer;
      accepted = y.heard.accepted + z.heard.accepted;
      used = y.heard.used + z.heard.used;
      line = z.heard.line;
      dropped = y.heard.dropped + z.heard.dropped;
    })
    z.tables
    z.hold

-- a unit was accepted: another may be finished
unfoldable pub goes_on : Heard → Bool
goes_on r = r.said && accepted r.answer

-- from where it stands, at most so many units more
unfoldable pub through : ℕ → List ℕ → ℕ → Hearing → Hearing
through zero scrap time y = y
through (suc left) scrap time y =
    let z : Hearing = onward scrap time y in
    cond (goes_on z.heard) (through left scrap time z) z

-- a scrap, of which at most so many units are allowed
abbrev pub hears : Line → Tables → List ℕ → List ℕ → ℕ → ℕ → Hearing
hears l x hold scrap allowed time = through allowed scrap time (hearing (silent 0 l) x hold)

-- a connect, by what the feed makes of it: 10, 20, 22 with "a holding buffer too short for the header and MsgSize", each "with everything unchanged";
-- an accepted one "empties the holding buffer" and ends the dropping
unfoldable pub links : Given → Line → List ℕ → Linked
links g l hold =
    first
    ((not (accepted g.answer), record { answer = g.answer; line = l })
    ∷ (ltb (length hold) least_hold, record { answer = 22; line = l })
    ∷ [])
    (record { answer = g.answer; line = record { feed = g.feed; held = 0; dropping = false } })
