-- What a message is by its type, its right size, and the statuses that are listed (document 01, "One unit", "The feed"). Assumes nothing.
use Rattle.std.specs.Prelude.{ℕ, Bool, true, false, cond, not, ◌||◌, List, [], ◌∷◌, length, ltb, eqb}
use Rattle.ground.specs.Choice.{one_of, pick}
use Rattle.wire.specs.Number.{field}
use Rattle.wire.specs.Units.{msg_size, msg_type}
use Rattle.ladder.specs.Message.{book_sized, listed_book}
use Rattle.strips.specs.Forms.{is_strip, strip_sized, listed_strip}
use Rattle.feed.specs.declared.Kind.{Kind}
use Rattle.feed.specs.declared.Kind.TheVariants.{Session, Market}
use Rattle.feed.specs.declared.Session.TheVariants.{SendKey, Logon, Logout, Refresh, Complete, Request}
use Rattle.feed.specs.declared.Datum.{Datum}
use Rattle.feed.specs.declared.Datum.TheVariants.{Book, Strip, Other}

-- what a market message brings: a book's entries; a price strip's values (document 02, request 2: types 40, 41, 43, 56, 62); something else
unfoldable pub datum_of : ℕ → Datum
datum_of t = pick t ((53, Book) ∷ []) (cond (is_strip t) Strip Other)

-- "A market message is any type other than 203, 1101, 1102, 1103, 1105, 1201 and 1202"
unfoldable pub kind_of : ℕ → Kind
kind_of t =
    pick t
    ((203, Session Complete)
    ∷ (1101, Session Request)
    ∷ (1102, Session Logon)
    ∷ (1103, Session Logout)
    ∷ (1105, Session SendKey)
    ∷ (1201, Session Request)
    ∷ (1202, Session Refresh)
    ∷ [])
    (Market (datum_of t))

abbrev pub kind : List ℕ → Kind
kind m = kind_of (msg_type m)

-- a test of what a market message brings; a session's message fails it
unfoldable pub on_market : (Datum → Bool) → Kind → Bool
on_market test (Session s) = false
on_market test (Market d) = test d

unfoldable pub market : Kind → Bool
market k = on_market (λ d. true) k

-- what goes to a table; the rest is passed over
unfoldable pub tabled : Datum → Bool
tabled Book = true
tabled Strip = true
tabled Other = false

-- "types 203, 1102, 1103, 1202 are 8 bytes. Type 53 is 12 + 24 x NoEntries .. All others, 1105 included: at least 4"; document 02, request 2:
-- 40 is 12 bytes, 41, 43 and 56 are 20, 62 is 16
abbrev pub least : ℕ
least = 4

abbrev pub eight : List ℕ → Bool
eight m = eqb (length m) 8

unfoldable pub sized : Kind → List ℕ → Bool
sized (Session Complete) m = eight m
sized (Session Logon) m = eight m
sized (Session Logout) m = eight m
sized (Session Refresh) m = eight m
sized (Session SendKey) m = true
sized (Session Request) m = true
sized (Market Book) m = book_sized m
sized (Market Strip) m = strip_sized m
sized (Market Other) m = true

-- 12: "size wrong, or given part under 4 bytes or not MsgSize long"
unfoldable pub wrong_size : List ℕ → Bool
wrong_size m = ltb (length m) least || not (eqb (msg_size m) (length m)) || not (sized (kind m) m)

-- a logon's status (byte 6): "0 or 2: Live .. 101: cleared, Refreshing. 1, 3, 8: stays. 5, 6, 100, 104, 105: Closed"
abbrev pub logon_status : List ℕ → ℕ
logon_status m = field 6 1 m

pub data Status : Type 0 where
  Opens Refills Stays Closes Unlisted : Status

unfoldable pub status_of : ℕ → Status
status_of n =
    pick n
    ((0, Opens)
    ∷ (2, Opens)
    ∷ (101, Refills)
    ∷ (1, Stays)
    ∷ (3, Stays)
    ∷ (8, Stays)
    ∷ (5, Closes)
    ∷ (6, Closes)
    ∷ (100, Closes)
    ∷ (104, Closes)
    ∷ (105, Closes)
    ∷ [])
    Unlisted

unfoldable pub listed_status : Status → Bool
listed_status Opens = true
listed_status Refills = true
listed_status Stays = true
listed_status Closes = true
listed_status Unlisted = false

-- "1202 with status (byte 4) 0", "1103 with status (byte 4) 6, 102 or 103"
abbrev pub status : List ℕ → ℕ
status m = field 4 1 m

-- "203 .. its number at 4"
abbrev pub last_internal : List ℕ → ℕ
last_internal m = field 4 4 m

-- 15: "status, or in type 53 code (1 to 99,999), side, level or action, not listed", and by document 02, request 2, a strip's code or direction, where this fails
unfoldable pub listed : Kind → List ℕ → Bool
listed (Session Complete) m = true
listed (Session Logon) m = listed_status (status_of (logon_status m))
listed (Session Logout) m = one_of (status m) (6 ∷ 102 ∷ 103 ∷ [])
listed (Session Refresh) m = eqb (status m) 0
listed (Session SendKey) m = true
listed (Session Request) m = true
listed (Market Book) m = listed_book m
listed (Market Strip) m = listed_strip m
listed (Market Other) m = true
