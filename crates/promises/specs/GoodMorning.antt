-- The good morning: the conversations that the exchange's rules allow, and that every one of them is accepted under a green badge. A conversation
-- is judged by itself, with no feed and no table. Proved in proofs/GoodMorning; specs/Mornings has conversations. Assumes nothing.
use Rattle.std.specs.Prelude.{ℕ, ◌+◌, ◌≤◌, ◌≡◌, Bool, true, false, cond, not, ◌&&◌, ◌||◌, List, [], ◌∷◌, ◌++◌, length, T, leb, eqb}
use Rattle.ground.specs.Choice.{all}
use Rattle.slots.specs.Layout.{count_in, with_code}
use Rattle.wire.specs.Codes.{security_code}
use Rattle.ladder.specs.Message.{has_entries}
use Rattle.ladder.specs.Walk.{empty_book, book_after}
use Rattle.books.specs.Table.{books, misfit}
use Rattle.strips.specs.Table.{strips}
use Rattle.feed.specs.Messages.{kind, wrong_size, listed, status_of, logon_status, last_internal}
use Rattle.feed.specs.Feeds.{badge_no, badge_of}
use Rattle.feed.specs.Events.{Event, Connect, News, Linked, More, Heartbeat, TooLong, Message, news, time_of}
use Rattle.feed.specs.Answers.{last_seq_num}
use Rattle.feed.specs.Steps.{accepted}
use Rattle.feed.specs.declared.Kind.{Kind}
use Rattle.feed.specs.declared.Kind.TheVariants.{Session, Market}
use Rattle.feed.specs.declared.Session.TheVariants.{SendKey, Logon, Logout, Refresh, Complete, Request}
use Rattle.feed.specs.declared.Datum.{Datum}
use Rattle.feed.specs.declared.Datum.TheVariants.{Book, Strip, Other}
use Rattle.feed.specs.Messages.{Status}
use Rattle.feed.specs.Messages.{Opens, Refills, Stays, Closes, Unlisted}
use Rattle.feed.specs.declared.Link.TheVariants.{Fresh}
use Rattle.promises.specs.Runs.{Sizes, start, run, trace, Deed, Took, history, replay_on}
use Rattle.promises.specs.Demands.{Bytes, lets_in}

-- what is due: the key, the logon, what a refresh brings, what the day brings
pub data Stage : Type 0 where
  NeedsKey NeedsLogon Fills Open : Stage

abbrev pub stage_no : Stage → ℕ
stage_no NeedsKey = 0
stage_no NeedsLogon = 1
stage_no Fills = 2
stage_no Open = 3

unfoldable pub on : Stage → Stage → Bool
on g q = eqb (stage_no g) (stage_no q)

-- what has been said so far
pub record Talk : Type 0 where
  pub stage : Stage
  -- the SeqNum that comes next, the last internal number, the time of what was said last
  pub next : ℕ
  pub last : ℕ
  pub at : ℕ
  -- the book messages and strip messages, each once, the codes that had entries, each once, and the codes that had strips, each once
  pub deeds : List Deed
  pub codes : List ℕ
  pub stripped : List ℕ

-- nothing, after a connect at a time
abbrev pub begins : ℕ → Talk
begins time = record { stage = NeedsKey; next = 1; last = 0; at = time; deeds = []; codes = []; stripped = [] }

abbrev pub to_stage : Stage → Talk → Talk
to_stage g w = record { stage = g; next = w.next; last = w.last; at = w.at; deeds = w.deeds; codes = w.codes; stripped = w.stripped }

abbrev pub last_is : ℕ → Talk → Talk
last_is i w = record { stage = w.stage; next = w.next; last = i; at = w.at; deeds = w.deeds; codes = w.codes; stripped = w.stripped }

abbrev pub tells : Deed → List ℕ → List ℕ → Talk → Talk
tells d cs ss w = record { stage = w.stage; next = w.next; last = w.last; at = w.at; deeds = w.deeds ++ (d ∷ []); codes = cs; stripped = ss }

-- one message more, or a heartbeat, at a time
abbrev pub spoken : ℕ → ℕ → Talk → Talk
spoken next time w = record { stage = w.stage; next = next; last = w.last; at = time; deeds = w.deeds; codes = w.codes; stripped = w.stripped }

-- what may come when: the key; the logon with 0, 2 or 101; in a refresh 1202, 203 and market messages without an internal number; then market messages with one
unfoldable pub due : Kind → Stage → ℕ → List ℕ → Bool
due (Session SendKey) g internal m = on g NeedsKey
due (Session Logon) g internal m = on g NeedsLogon && lets_in (status_of (logon_status m))
due (Session Refresh) g internal m = on g Fills
due (Session Complete) g internal m = on g Fills
due (Session Logout) g internal m = false
due (Session Request) g internal m = false
due (Market d) g internal m = (on g Fills && eqb internal 0) || (on g Open && leb 1 internal)

-- a market message with an internal number not above the last was said before
unfoldable pub again : Talk → ℕ → Bool
again w internal = on w.stage Open && leb internal w.last

-- "entries that fit; no more codes than slots": the entries fit the code's book, as the messages for that code have made it; of strips no more
-- codes than slots. (`slots` are the slots of each table)
unfoldable pub fits : Sizes → Talk → ℕ → Datum → List ℕ → Bool
fits slots w time Book m =
    not (has_entries m)
    || (leb (length (with_code (security_code m) w.codes)) slots.books
    && not (misfit (book_after time m (replay_on (security_code m) w.deeds empty_book))))
fits slots w time Strip m = leb (length (with_code (security_code m) w.stripped)) slots.strips
fits slots w time Other m = true

unfoldable pub good : Sizes → Talk → ℕ → Kind → ℕ → List ℕ → Bool
good slots w time (Session s) internal m = true
good slots w time (Market d) internal m = again w internal || fits slots w time d m

-- "numbers without a gap; sizes and fields as listed"
unfoldable pub fair_news : Sizes → Talk → ℕ → News → Bool
fair_news slots w time (Linked link) = false
fair_news slots w time More = false
fair_news slots w time Heartbeat = true
fair_news slots w time TooLong = false
fair_news slots w time (Message seq internal m) =
    eqb seq w.next && leb seq last_seq_num && not (wrong_size m) && listed (kind m) m && due (kind m) w.stage internal m
    && good slots w time (kind m) internal m

-- "never silent beyond the limit"
unfoldable pub fair : ℕ → Sizes → Talk → Event → Bool
fair limit slots w e = leb w.at (time_of e) && leb (time_of e) (w.at + limit) && fair_news slots w (time_of e) (news e)

-- what has then been said
unfoldable pub after_logon : Status → Talk → Talk
after_logon Opens w = to_stage Open w
after_logon Refills w = to_stage Fills w
after_logon Stays w = w
after_logon Closes w = w
after_logon Unlisted w = w

unfoldable pub told : Datum → ℕ → List ℕ → Talk → Talk
told Book time m w = tells (Took Book time m) (cond (has_entries m) (with_code (security_code m) w.codes) w.codes) w.stripped w
told Strip time m w = tells (Took Strip time m) w.codes (with_code (security_code m) w.stripped) w
told Other time m w = w

unfoldable pub says : Kind → ℕ → ℕ → List ℕ → Talk → Talk
says (Session SendKey) time internal m w = to_stage NeedsLogon w
says (Session Logon) time internal m w = after_logon (status_of (logon_status m)) w
says (Session Logout) time internal m w = w
says (Session Refresh) time internal m w = w
says (Session Complete) time internal m w = to_stage Open (last_is (last_internal m) w)
says (Session Request) time internal m w = w
says (Market d) time internal m w = cond (again w internal) w (told d time m (last_is (cond (on w.stage Open) internal w.last) w))

unfoldable pub said_news : News → ℕ → Talk → Talk
said_news (Linked link) time w = w
said_news More time w = w
said_news Heartbeat time w = spoken w.next time w
said_news TooLong time w = w
said_news (Message seq internal m) time w = spoken (w.next + 1) time (says (kind m) time internal m w)

-- a conversation of whole units, each at its time
unfoldable pub talk : Talk → List Event → Talk
talk w [] = w
talk w (e ∷ es) = talk (said_news (news e) (time_of e) w) es

unfoldable pub fairly : ℕ → Sizes → Talk → List Event → Bool
fairly limit slots w [] = true
fairly limit slots w (e ∷ es) = fair limit slots w e && fairly limit slots (said_news (news e) (time_of e) w) es

-- the slots of tables of so many words
abbrev pub slots_of : Sizes → Sizes
slots_of n = record { books = count_in books n.books; strips = count_in strips n.strips }

-- THE GOOD MORNING. After any run whatever, a fresh connect whose time is not before the last heard, and then any conversation that the rules allow:
-- every arrival is answered 0, 1 or 2; and after any part of it the badge, once the logon with 0 or 2 or else 203 has been said, is green from the
-- time of what was said last until the silence limit
abbrev pub GoodMorning : Type 0
GoodMorning =
    (limit : ℕ) (n : Sizes) (es : List Event) (time : ℕ) (part rest : List Event) → Bytes es → Bytes (part ++ rest) → (history (start limit n) es).heard ≤ time
    → T (fairly (start limit n).feed.limit (slots_of n) (begins time) (part ++ rest))
    → T (all (λ p. accepted p.1) (trace (run (start limit n) (es ++ (Connect Fresh time ∷ []))) (part ++ rest)))
    × ((asked : ℕ) → on (talk (begins time) part).stage Open ≡ true → (talk (begins time) part).at ≤ asked
    → asked ≤ (talk (begins time) part).at + (start limit n).feed.limit
    → badge_no (badge_of (run (start limit n) (es ++ (Connect Fresh time ∷ part))).feed asked) ≡ 1)
