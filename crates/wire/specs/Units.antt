-- The unit at the front of a stream (document 01, "One unit"; the header is table 3.2 of 003, copied in docs/HEADER.md). Assumes nothing.
use Rattle.std.specs.Prelude.{ℕ, ◌+◌, cond, List, length, take, drop, ltb, eqb}
use Rattle.wire.specs.Number.{field}
use Rattle.wire.specs.declared.Unit.{Unit}
use Rattle.wire.specs.declared.Unit.TheVariants.{More, Heartbeat, Message}

-- the header: its length, and its fields MsgLength, SeqNum and InternalSeqNum
abbrev pub header_size : ℕ
header_size = 20

abbrev pub msg_length : List ℕ → ℕ
msg_length s = field 0 2 s

abbrev pub seq_num : List ℕ → ℕ
seq_num s = field 4 4 s

abbrev pub internal_num : List ℕ → ℕ
internal_num s = field 8 4 s

-- "Every message opens with MsgSize (2 bytes, its whole length) and MsgType (2 bytes)"
abbrev pub size_size : ℕ
size_size = 2

abbrev pub msg_size : List ℕ → ℕ
msg_size m = field 0 size_size m

abbrev pub msg_type : List ℕ → ℕ
msg_type m = field 2 2 m

-- More: fewer bytes than the header; or, where it is no heartbeat, than the header and MsgSize; or than the header and as many bytes as MsgSize says
unfoldable pub unit_of : List ℕ → Unit
unit_of s =
    cond (ltb (length s) header_size) More
    (cond (eqb (msg_length s) header_size) Heartbeat
    (cond (ltb (length s) (header_size + size_size)) More
    (cond (ltb (length s) (header_size + msg_size (drop header_size s))) More
    (Message (seq_num s) (internal_num s) (msg_size (drop header_size s))))))

-- the message of a unit, "the very part of the caller's bytes"
abbrev pub message_in : List ℕ → ℕ → List ℕ
message_in s n = take n (drop header_size s)
