-- More, heartbeats and the sizes of messages; SeqNum and internal number at their ends (document 01, "One unit"). Assumes nothing.
use Rattle.std.specs.Prelude.{ℕ, true, List, [], ◌∷◌, ◌++◌, take, drop, replicate}
use Prim.Native.String.{String}
use Rattle.feed.specs.Events.{Connect, Arrive, Cut}
use Rattle.feed.specs.declared.Phase.{Phase}
use Rattle.feed.specs.declared.Phase.TheVariants.{WaitKey, WaitLogon, Refreshing, Live, Lost}
use Rattle.feed.specs.declared.Link.TheVariants.{Fresh}
use Rattle.promises.specs.Checks.{Check}
use Rattle.promises.specs.Build.{bytes, header, unit, heartbeat, message, send_key, entry, book_message, block, feed, arrives, gets}
use Rattle.promises.specs.Answering.{one_call, fed, lost, heard, held, both, fits}

-- bytes that arrive in Live: the answer and the bytes used, where the feed is heard or stays
unfoldable pub torn : String → List ℕ → Check
torn name s = one_call name (fed Live) held (gets (Arrive s 20) 3) (fed Live) held

unfoldable pub quiet : String → List ℕ → Check
quiet name s = one_call name (fed Live) held (record { event = Arrive s 20; answer = 0; used = 20; dropped = 0 }) (feed Live 5 7 20 true true) held

-- a unit whose header has another MsgLength
unfoldable pub with_length : ℕ → List ℕ → List ℕ
with_length n s = bytes 2 n ++ drop 2 s

-- a header with MsgLength 99 and SeqNum 5, and bytes behind it
unfoldable pub headed : List ℕ → List ℕ
headed s = header 99 5 8 ++ s

unfoldable pub more : List Check
more =
    torn "no bytes" []
    ∷ torn "19 bytes" (take 19 (unit 5 8 fits))
    ∷ torn "the header alone" (take 20 (unit 5 8 fits))
    ∷ torn "one byte of MsgSize" (take 21 (unit 5 8 fits))
    ∷ torn "the two bytes of MsgSize" (take 22 (unit 5 8 fits))
    ∷ torn "one byte short" (take 55 (unit 5 8 fits))
    ∷ one_call "all of it" (fed Live) held (arrives (unit 5 8 fits) 20 0) (heard Live 8) both
    ∷ one_call "and bytes behind it" (fed Live) held (record { event = Arrive (unit 5 8 fits ++ (1 ∷ 2 ∷ 3 ∷ [])) 20; answer = 0; used = 56; dropped = 0 }) (heard Live 8) both
    ∷ []

unfoldable pub heartbeats : List Check
heartbeats =
    torn "19 bytes" (take 19 heartbeat)
    ∷ quiet "20 bytes" heartbeat
    ∷ quiet "and one byte behind it" (heartbeat ++ (255 ∷ []))
    ∷ quiet "and a unit behind it" (heartbeat ++ unit 5 8 fits)
    ∷ quiet "all zero behind MsgLength" (bytes 2 20 ++ replicate 18 0)
    ∷ quiet "MsgLength 20 before a message" (with_length 20 (unit 5 8 fits))
    ∷ one_call "MsgLength 19 is none" (fed Live) held (arrives (with_length 19 (unit 5 8 fits)) 20 0) (heard Live 8) both
    ∷ one_call "MsgLength 0 is none" (fed Live) held (arrives (with_length 0 (unit 5 8 fits)) 20 0) (heard Live 8) both
    ∷ one_call "MsgLength 276 is none" (fed Live) held (arrives (with_length 276 (unit 5 8 fits)) 20 0) (heard Live 8) both
    ∷ one_call "MsgLength 65,535 is none" (fed Live) held (arrives (with_length 65535 (unit 5 8 fits)) 20 0) (heard Live 8) both
    ∷ []

-- "A MsgSize below 4 is a unit of that length, and 12"
unfoldable pub tiny : List Check
tiny =
    torn "MsgSize 0, one byte of it" (headed (0 ∷ []))
    ∷ one_call "MsgSize 0" (fed Live) held (arrives (headed (0 ∷ 0 ∷ [])) 20 12) lost held
    ∷ one_call "MsgSize 1" (fed Live) held (arrives (headed (1 ∷ 0 ∷ [])) 20 12) lost held
    ∷ one_call "MsgSize 2" (fed Live) held (arrives (headed (2 ∷ 0 ∷ [])) 20 12) lost held
    ∷ torn "MsgSize 3, two bytes" (headed (3 ∷ 0 ∷ []))
    ∷ one_call "MsgSize 3" (fed Live) held (arrives (headed (3 ∷ 0 ∷ 60 ∷ [])) 20 12) lost held
    ∷ one_call "MsgSize 4" (fed Live) held (arrives (headed (4 ∷ 0 ∷ 60 ∷ 0 ∷ [])) 20 2) (heard Live 8) held
    ∷ []

-- a message of a wrong size is 12, and one of a right size is not
unfoldable pub wrongly : String → Phase → List ℕ → Check
wrongly name p m = one_call name (fed p) held (arrives (unit 5 8 m) 20 12) (feed Lost 5 7 10 true true) held

unfoldable pub sizes : List Check
sizes =
    wrongly "203 of 7 bytes" Refreshing (message 203 (replicate 3 0))
    ∷ wrongly "203 of 9 bytes, also in WaitKey" WaitKey (message 203 (replicate 5 0))
    ∷ wrongly "1102 of 7 bytes" WaitLogon (message 1102 (replicate 3 0))
    ∷ wrongly "1102 of 9 bytes" WaitLogon (message 1102 (replicate 5 0))
    ∷ wrongly "1103 of 7 bytes" Live (message 1103 (6 ∷ 0 ∷ 0 ∷ []))
    ∷ wrongly "1103 of 9 bytes" Live (message 1103 (6 ∷ 0 ∷ 0 ∷ 0 ∷ 0 ∷ []))
    ∷ wrongly "1202 of 7 bytes" Refreshing (message 1202 (replicate 3 0))
    ∷ wrongly "1202 of 9 bytes" Refreshing (message 1202 (replicate 5 0))
    ∷ wrongly "53 of 4 bytes" Live (message 53 [])
    ∷ wrongly "53 of 11 bytes" Live (message 53 (bytes 4 700 ++ bytes 3 0))
    ∷ wrongly "53 of 12 bytes with NoEntries 1" Live (message 53 (bytes 4 700 ++ bytes 3 0 ++ bytes 1 1))
    ∷ wrongly "53 of 36 bytes with NoEntries 0" Live (message 53 (bytes 4 700 ++ bytes 3 0 ++ bytes 1 0 ++ replicate 24 0))
    ∷ wrongly "53 of 36 bytes with NoEntries 2" Live (message 53 (bytes 4 700 ++ bytes 3 0 ++ bytes 1 2 ++ entry 0 2 0 9720 100 1))
    ∷ wrongly "53 of 37 bytes with NoEntries 1" Live (message 53 (bytes 4 700 ++ bytes 3 0 ++ bytes 1 1 ++ entry 0 2 0 9720 100 1 ++ (0 ∷ [])))
    ∷ one_call "53 of 12 bytes with NoEntries 0" (fed Live) held (arrives (unit 5 8 (book_message 700 [])) 20 0) (heard Live 8) (block 700 [] [])
    ∷ one_call "53 of 36 bytes with NoEntries 1" (fed Live) held (arrives (unit 5 8 fits) 20 0) (heard Live 8) both
    ∷ one_call "1105 of 4 bytes" (fed WaitKey) held (arrives (unit 5 0 send_key) 20 0) (heard WaitLogon 7) held
    ∷ one_call "1105 of 532 bytes" (fed WaitKey) held (arrives (unit 5 0 (message 1105 (replicate 528 65))) 20 0) (heard WaitLogon 7) held
    ∷ one_call "1101 of 4 bytes is 14" (fed WaitKey) held (arrives (unit 5 0 (message 1101 [])) 20 14) lost held
    ∷ []

-- "A market message is any type other than ..": the neighbours of those that are read, of 4 bytes and more, are passed over
unfoldable pub passes : String → ℕ → List ℕ → Check
passes name type rest = one_call name (fed Live) held (arrives (unit 5 8 (message type rest)) 20 2) (heard Live 8) held

unfoldable pub types : List Check
types =
    passes "type 0" 0 []
    ∷ passes "type 10" 10 []
    ∷ passes "type 39" 39 []
    ∷ passes "type 42" 42 []
    ∷ passes "type 44" 44 []
    ∷ passes "type 52" 52 []
    ∷ passes "type 54 of 5 bytes" 54 (1 ∷ [])
    ∷ passes "type 55" 55 []
    ∷ passes "type 57" 57 []
    ∷ passes "type 60" 60 []
    ∷ passes "type 61" 61 []
    ∷ passes "type 63" 63 []
    ∷ passes "type 202" 202 []
    ∷ passes "type 296, 40 in its low byte" 296 []
    ∷ passes "type 204" 204 []
    ∷ passes "type 309, 53 in its low byte" 309 []
    ∷ passes "type 1100" 1100 []
    ∷ passes "type 1104" 1104 []
    ∷ passes "type 1106" 1106 []
    ∷ passes "type 1200" 1200 []
    ∷ passes "type 1203" 1203 []
    ∷ passes "type 65,535" 65535 []
    ∷ []

-- "After SeqNum 4,294,967,295 the next never comes"
unfoldable pub sequence : List Check
sequence =
    one_call "the next" (fed Live) held (arrives (unit 5 8 (message 60 [])) 20 2) (heard Live 8) held
    ∷ one_call "4,294,967,295" (feed Live 4294967295 7 10 true true) held (arrives (unit 4294967295 8 (message 60 [])) 20 2) (feed Live 4294967296 8 20 true true) held
    ∷ one_call "after it, 0" (feed Live 4294967296 7 10 true true) held (arrives (unit 0 8 (message 60 [])) 20 13) (feed Lost 4294967296 7 10 true true) held
    ∷ one_call "after it, 1" (feed Live 4294967296 7 10 true true) held (arrives (unit 1 8 (message 60 [])) 20 13) (feed Lost 4294967296 7 10 true true) held
    ∷ one_call "after it, the same again" (feed Live 4294967296 7 10 true true) held (arrives (unit 4294967295 8 (message 60 [])) 20 13) (feed Lost 4294967296 7 10 true true) held
    ∷ one_call "after it, 4,294,967,296 handed over" (feed Live 4294967296 7 10 true true) held (gets (Cut 4294967296 8 (message 60 []) 20) 13) (feed Lost 4294967296 7 10 true true) held
    ∷ one_call "after it, a heartbeat" (feed Live 4294967296 7 10 true true) held (arrives heartbeat 20 0) (feed Live 4294967296 7 20 true true) held
    ∷ one_call "after it, a connect" (feed Live 4294967296 7 10 true true) held (gets (Connect Fresh 20) 0) (feed WaitKey 1 7 20 true true) held
    ∷ one_call "internal number 4,294,967,295" (fed Live) held (arrives (unit 5 4294967295 (message 60 [])) 20 2) (heard Live 4294967295) held
    ∷ one_call "after it, the same is Seen" (feed Live 5 4294967295 10 true true) held (arrives (unit 5 4294967295 fits) 20 1) (heard Live 4294967295) held
    ∷ one_call "a gap in the internal numbers" (fed Live) held (arrives (unit 5 1000 fits) 20 0) (heard Live 1000) both
    ∷ []
