-- The numbers of a run, from its events and answers alone: what the history (specs/Runs) leaves out. No feed is looked at. Assumes nothing.
use Rattle.std.specs.Prelude.{ℕ, zero, suc, Bool, true, false, cond, not, ◌&&◌, List, [], ◌∷◌, ◌++◌, ltb, leb, eqb}
use Rattle.feed.specs.Messages.{kind, status_of, logon_status, last_internal}
use Rattle.feed.specs.Events.{State, Event, News, Linked, More, Heartbeat, TooLong, Message, news}
use Rattle.feed.specs.Steps.{accepted}
use Rattle.feed.specs.declared.Kind.{Kind}
use Rattle.feed.specs.declared.Kind.TheVariants.{Session, Market}
use Rattle.feed.specs.declared.Session.TheVariants.{SendKey, Logon, Logout, Refresh, Complete, Request}
use Rattle.feed.specs.Messages.{Status}
use Rattle.feed.specs.Messages.{Opens, Refills, Stays, Closes, Unlisted}
use Rattle.promises.specs.Runs.{trace, History, no_history, note}

pub record Ledger : Type 0 where
  -- the SeqNums of the counted messages that came since the last accepted connect, in their order, but those that came "before the last heard" (10);
  -- what was too long for a holding buffer (22), and what a line drops, is no message here
  pub came : List ℕ
  -- the SeqNums of those of them that were accepted: answered 0, 1 or 2
  pub met : List ℕ
  -- 203's number, where the last clearing's refresh is complete; otherwise 0
  pub base : ℕ
  -- the internal numbers of the market messages taken in Live (answered 0 or 2) since the last clearing
  pub numbers : List ℕ
  -- Live was entered, and since it was last entered nothing was cleared and no arrival was answered 15 to 18
  pub whole : Bool

abbrev pub no_ledger : Ledger
no_ledger = record { came = []; met = []; base = 0; numbers = []; whole = false }

-- an accepted connect counts anew
abbrev pub forget : Ledger → Ledger
forget l = record { came = []; met = []; base = l.base; numbers = l.numbers; whole = l.whole }

-- a counted message came; was met
abbrev pub sees : ℕ → Ledger → Ledger
sees seq l = record { came = l.came ++ (seq ∷ []); met = l.met; base = l.base; numbers = l.numbers; whole = l.whole }

abbrev pub meets : ℕ → Ledger → Ledger
meets seq l = record { came = l.came; met = l.met ++ (seq ∷ []); base = l.base; numbers = l.numbers; whole = l.whole }

-- a clearing; Live entered; an arrival answered 15 to 18
abbrev pub emptied : Ledger → Ledger
emptied l = record { came = l.came; met = l.met; base = 0; numbers = []; whole = false }

abbrev pub enters : Ledger → Ledger
enters l = record { came = l.came; met = l.met; base = l.base; numbers = l.numbers; whole = true }

abbrev pub spoils : Ledger → Ledger
spoils l = record { came = l.came; met = l.met; base = l.base; numbers = l.numbers; whole = false }

-- 203 with its number; a market message taken in Live
abbrev pub completes : ℕ → Ledger → Ledger
completes i l = record { came = l.came; met = l.met; base = i; numbers = l.numbers; whole = l.whole }

abbrev pub takes : ℕ → Ledger → Ledger
takes i l = record { came = l.came; met = l.met; base = l.base; numbers = l.numbers ++ (i ∷ []); whole = l.whole }

-- Live, by the history: an accepted logon, its refresh complete, and neither a logout nor an arrival answered 12 to 18 or 22 since
abbrev pub is_live : History → Bool
is_live h = h.up && not h.owed && not h.over

-- "0 or 2: Live, and after a fresh connect the table is cleared first. 101: cleared"
unfoldable pub enter_status : Status → History → Ledger → Ledger
enter_status Opens h l = enters (cond h.fresh (emptied l) l)
enter_status Refills h l = emptied l
enter_status Stays h l = l
enter_status Closes h l = l
enter_status Unlisted h l = l

-- a message answered 0 or 2
unfoldable pub enter_taken : Kind → ℕ → List ℕ → History → Ledger → Ledger
enter_taken (Session SendKey) internal m h l = l
enter_taken (Session Logon) internal m h l = enter_status (status_of (logon_status m)) h l
enter_taken (Session Logout) internal m h l = l
enter_taken (Session Refresh) internal m h l = l
enter_taken (Session Complete) internal m h l = enters (completes (last_internal m) l)
enter_taken (Session Request) internal m h l = l
enter_taken (Market d) internal m h l = cond (is_live h) (takes internal l) l

-- what is accepted: of a message answered 1 (Seen) only its SeqNum
unfoldable pub enter_accepted : Bool → News → History → Ledger → Ledger
enter_accepted seen (Linked link) h l = forget l
enter_accepted seen More h l = l
enter_accepted seen Heartbeat h l = l
enter_accepted seen TooLong h l = l
enter_accepted seen (Message seq internal m) h l = meets seq (cond seen l (enter_taken (kind m) internal m h l))

-- whatever is answered but 10
unfoldable pub enter_came : ℕ → News → Ledger → Ledger
enter_came n (Linked link) l = l
enter_came n More l = l
enter_came n Heartbeat l = l
enter_came n TooLong l = l
enter_came n (Message seq internal m) l = cond (eqb n 10) l (sees seq l)

-- the ledger after one event more, answered n, where h is the history before it
unfoldable pub enter : History → Ledger → News → ℕ → Ledger
enter h l x n = enter_came n x (cond (accepted n) (enter_accepted (eqb n 1) x h l) (cond (leb 15 n && leb n 18) (spoils l) l))

unfoldable pub keep : History → Ledger → List (Event × ℕ) → Ledger
keep h l [] = l
keep h l (p ∷ ps) = keep (note h p.0 p.1) (enter h l (news p.0) p.1) ps

-- the ledger of a run
abbrev pub ledger : State → List Event → Ledger
ledger s es = keep no_history no_ledger (trace s es)

-- 1, 2, 3, .. up to k
unfoldable pub up_to : ℕ → List ℕ
up_to zero = []
up_to (suc k) = up_to k ++ (suc k ∷ [])

-- each number is above the one before it, the first above x
unfoldable pub rising : ℕ → List ℕ → Bool
rising x [] = true
rising x (y ∷ ys) = ltb x y && rising y ys

-- the last of x and the numbers that follow it
unfoldable pub last_of : ℕ → List ℕ → ℕ
last_of x [] = x
last_of x (y ∷ ys) = last_of y ys
