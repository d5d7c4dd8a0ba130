-- What a feed and its tables meet: connects, arrivals of bytes, messages already cut (document 01, "One unit", "The feed"). Assumes nothing.
use Rattle.std.specs.Prelude.{ℕ, ◌+◌, Bool, false, List, length}
use Rattle.wire.specs.Units.{header_size, unit_of, message_in}
use Rattle.wire.specs.declared.Unit.{Unit}
use Rattle.wire.specs.declared.Unit.TheVariants as unit
use Rattle.slots.specs.Layout.{cleared_in}
use Rattle.books.specs.Table.{books}
use Rattle.strips.specs.Table.{strips}
use Rattle.feed.specs.declared.Feed.{Feed}
use Rattle.feed.specs.declared.Link.{Link}

-- all that is lent
pub record Tables : Type 0 where
  pub books : List ℕ
  pub strips : List ℕ

-- "Clearing zeroes all slots", and "Both tables clear together"
abbrev pub cleared_tables : Tables → Tables
cleared_tables x = record { books = cleared_in books x.books; strips = cleared_in strips x.strips }

-- a feed, and the tables that are lent with it
pub record State : Type 0 where
  pub feed : Feed
  pub tables : Tables

-- a connect; an arrival of bytes; "the two numbers and a message already cut"; document 02, request 5: 22 is due of what waits in a holding buffer and
-- comes. Each at a time
pub data Event : Type 0 where
  Connect : (link : Link) (time : ℕ) → Event
  Arrive : (bytes : List ℕ) (time : ℕ) → Event
  Cut : (seq internal : ℕ) (message : List ℕ) (time : ℕ) → Event
  Overrun : (time : ℕ) → Event

unfoldable pub time_of : Event → ℕ
time_of (Connect link time) = time
time_of (Arrive bytes time) = time
time_of (Cut seq internal m time) = time
time_of (Overrun time) = time

-- what an event brings
pub data News : Type 0 where
  Linked : (link : Link) → News
  More Heartbeat TooLong : News
  Message : (seq internal : ℕ) (message : List ℕ) → News

-- the unit at the front of bytes, its message as the part of them
unfoldable pub cut_from : List ℕ → Unit → News
cut_from s unit.More = More
cut_from s unit.Heartbeat = Heartbeat
cut_from s (unit.Message seq internal size) = Message seq internal (message_in s size)

-- a message already cut is "never More, never a heartbeat"
unfoldable pub news : Event → News
news (Connect link time) = Linked link
news (Arrive bytes time) = cut_from bytes (unit_of bytes)
news (Cut seq internal m time) = Message seq internal m
news (Overrun time) = TooLong

-- a test of a message; nothing else passes it
unfoldable pub on_message : (ℕ → ℕ → List ℕ → Bool) → News → Bool
on_message test (Linked link) = false
on_message test More = false
on_message test Heartbeat = false
on_message test TooLong = false
on_message test (Message seq internal m) = test seq internal m

-- "the header plus MsgSize .. (for a heartbeat, its own length)"
unfoldable pub news_size : News → ℕ
news_size (Linked link) = 0
news_size More = 0
news_size Heartbeat = header_size
news_size TooLong = 0
news_size (Message seq internal m) = header_size + length m

-- the bytes that an event has to offer: of a message already cut, "no bytes used"
unfoldable pub offered : Event → ℕ
offered (Connect link time) = 0
offered (Arrive bytes time) = news_size (news (Arrive bytes time))
offered (Cut seq internal m time) = 0
offered (Overrun time) = 0
