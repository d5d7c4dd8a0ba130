-- What has come, seen through a lent holding buffer (document 02, request 5). Assumes nothing.
use Rattle.std.specs.Prelude.{ℕ, ◌+◌, max, Bool, cond, not, ◌&&◌, ◌||◌, List, length, drop, ltb, leb, eqb}
use Rattle.wire.specs.Units.{header_size, size_size, msg_length, msg_size, unit_of}
use Rattle.wire.specs.declared.Unit.{Unit}
use Rattle.wire.specs.declared.Unit.TheVariants.{More, Heartbeat, Message}
use Rattle.lines.specs.declared.Look.{Look}
use Rattle.lines.specs.declared.Look.TheVariants.{Waits, TooLong, Finished}

-- "the header and MsgSize"
abbrev pub least_hold : ℕ
least_hold = header_size + size_size

-- "a unit's full length": known once MsgSize has come, of what is no heartbeat
unfoldable pub is_sized : List ℕ → Bool
is_sized s = leb least_hold (length s) && not (eqb (msg_length s) header_size)

abbrev pub full_length : List ℕ → ℕ
full_length s = header_size + msg_size (drop header_size s)

-- 22, of a buffer of `room` bytes in which `held` wait: "exactly when a unit's full length, the header with MsgSize, or the bytes waiting exceed the
-- holding buffer"
unfoldable pub exceeds : ℕ → ℕ → List ℕ → Bool
exceeds room held s = (is_sized s && ltb room (full_length s)) || ltb room least_hold || ltb room held

-- a unit is finished where the reader would not say More: a heartbeat at 20 bytes; a message with MsgSize's two bytes there, also where it is 0 or 1
unfoldable pub finished : Unit → Look
finished More = Waits
finished Heartbeat = Finished header_size
finished (Message seq internal size) = Finished (header_size + max size_size size)

-- what the bytes ask for: to wait for more; 22, "as soon as that is known"; a unit of so many bytes goes through the feed
unfoldable pub look : ℕ → ℕ → List ℕ → Look
look room held s = cond (exceeds room held s) TooLong (finished (unit_of s))
