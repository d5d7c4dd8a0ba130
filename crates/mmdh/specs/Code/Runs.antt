-- What a call, a read, a turn and the run of the program come to (document 01, example 10). Assumes nothing.
use Rattle.std.specs.Prelude.{ℕ, ◌+◌, ◌-◌, ◌*◌, ◌≤◌, ◌≡◌, true, false, cond, not, List, [], ◌++◌, length, take, drop, replicate, leb}
use Rattle.feed.specs.Events.{Tables, State, Arrive}
use Rattle.feed.specs.Steps.{accepted, lent, state_of, out_of, outcome}
use Rattle.feed.specs.Program.{Stand, connection, follow, printed, table_words, strip_words}
use Rattle.mmdh.specs.Text.{text}
use Rattle.mmdh.specs.declared.Run.{Run}
use Rattle.mmdh.specs.declared.held.Held.{Held}

-- the bytes that are left
abbrev pub left : Held → List ℕ
left h = take (h.to - h.from) (drop h.from h.bytes)

-- the tables of a run, and its feed with them
abbrev pub tables_of : Run → Tables
tables_of r = lent r.table r.strips

abbrev pub state_in : Run → State
state_in r = state_of r.feed (tables_of r)

-- where a run stands, in the terms of Program
abbrev pub stand_of : Run → Stand
stand_of r = record { answer = r.answer; units = r.units; state = state_in r }

-- Program's run over bytes from where a run stands
abbrev pub run_from : List ℕ → Stand → Stand
run_from s x = follow (length s + 1) s x

-- a run before its first turn: a fresh connect with zeroed tables, and no bytes
pub record Started (r : Run) : Type 0 where
  pub answer : r.answer ≡ 0
  pub units : r.units ≡ 0
  pub feed : r.feed ≡ connection.feed
  pub table : r.table ≡ replicate table_words 0
  pub strips : r.strips ≡ replicate strip_words 0
  pub none : left r.held ≡ []
  pub over : r.over ≡ false

-- q is r after one call at the bytes that are left: what the call hands back, of which a run keeps all but the rows dropped; the run is over where it is
-- not accepted
pub record Called (r q : Run) : Type 0 where
  pub used : ℕ
  pub taken : used ≡ q.held.from - r.held.from
  pub forward : r.held.from ≤ q.held.from
  pub end : q.held.to ≡ r.held.to
  pub rest : left q.held ≡ drop used (left r.held)
  pub made : out_of (record { answer = q.answer; used = used; feed = q.feed; dropped = (outcome (state_in r) (Arrive (left r.held) 0)).given.dropped }) (tables_of q)
      ≡ outcome (state_in r) (Arrive (left r.held) 0)
  pub units : q.units ≡ cond (accepted q.answer) (r.units + 1) r.units
  pub over : q.over ≡ not (accepted q.answer)

-- q is r with more bytes read: those that were left are still there, first, and all else is as it was; the run is over where none came
pub record Refilled (r q : Run) : Type 0 where
  pub front : q.held.from ≡ 0
  pub kept : take (length (left r.held)) (left q.held) ≡ left r.held
  pub answer : q.answer ≡ r.answer
  pub units : q.units ≡ r.units
  pub feed : q.feed ≡ r.feed
  pub tables : tables_of q ≡ tables_of r
  pub over : q.over ≡ leb (length (left q.held)) (length (left r.held))

-- q is r some turns later, in which bytes came. While the run is not over: whatever comes after them, Program's run from r on is its
-- run from q on; and each turn took a byte that came, or used one. Where it is over: Program's run from r on, over the bytes that came, ends at q
pub record Turned (turns : ℕ) (r q : Run) : Type 0 where
  pub came : List ℕ
  pub counts : q.units ≤ r.units + turns
  pub goes : q.over ≡ false → (rest : List ℕ) → run_from (left r.held ++ (came ++ rest)) (stand_of r) ≡ run_from (left q.held ++ rest) (stand_of q)
  pub pays : q.over ≡ false → turns + length (left q.held) ≤ 2 * length came + length (left r.held)
  pub ends : q.over ≡ true → run_from (left r.held ++ came) (stand_of r) ≡ stand_of q

-- q is r once no more bytes are read: over, and where Program's run from r on, over the bytes that are left, ends
pub record Drained (r q : Run) : Type 0 where
  pub over : q.over ≡ true
  pub ends : r.over ≡ false → run_from (left r.held) (stand_of r) ≡ stand_of q
  pub same : r.over ≡ true → stand_of q ≡ stand_of r

-- what stands in the first r bytes to be written: bytes came, and it is what Program prints of them; where the last answer is a refusal,
-- whatever would have come after them
pub record Wrote (out : List ℕ) (r : ℕ) : Type 0 where
  pub came : List ℕ
  pub counts : (r ≤ length out) × (r ≡ length (take r out))
  pub prints : take r out ≡ text (printed came)
  pub still : ((printed came).answer ≡ 3 → ⊥) → (rest : List ℕ) → take r out ≡ text (printed (came ++ rest))
