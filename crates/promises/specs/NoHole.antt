-- No hole under a green badge: what the SeqNums and internal numbers of every run are, from its events and answers alone. Each is proved in
-- proofs/NoHole, under its name with a small letter. Assumes nothing.
use Rattle.std.specs.Prelude.{ℕ, ◌+◌, ◌≡◌, true, cond, ◌&&◌, List, length, T, ltb, leb}
use Rattle.feed.specs.Events.{Event, Connect, Message, news}
use Rattle.feed.specs.Steps.{accepted}
use Rattle.feed.specs.declared.Link.TheVariants.{Fresh, Resuming}
use Rattle.promises.specs.Runs.{Sizes, start, answer_of, end_of, tale, is_green}
use Rattle.promises.specs.Ledger.{Ledger, ledger, up_to, rising, last_of}

-- the ledger of a run from a new feed and zeroed tables
abbrev pub kept : ℕ → Sizes → List Event → Ledger
kept limit n es = ledger (start limit n) es

-- the counted messages accepted since the last accepted connect carry 1, 2, 3, .. without a gap, and the next that is accepted is one more
abbrev pub NoGap : Type 0
NoGap =
    (limit : ℕ) (n : Sizes) (es : List Event)
    → ((kept limit n es).met ≡ up_to (length (kept limit n es).met))
    × ((e : Event) (seq internal : ℕ) (m : List ℕ) → news e ≡ Message seq internal m
    → accepted (answer_of (end_of limit n es) e) ≡ true
    → seq ≡ length (kept limit n es).met + 1)

-- in Live the internal numbers of what is taken strictly rise, from 203's number on where there was a refresh: since the last clearing,
-- over resumed connections too, nothing is applied twice
abbrev pub Rises : Type 0
Rises = (limit : ℕ) (n : Sizes) (es : List Event) → T (rising (kept limit n es).base (kept limit n es).numbers)

-- a resuming connect is accepted exactly if its time is not before the last heard, Live was entered, since it was last entered nothing was
-- cleared and no arrival was answered 15 to 18, and a number is there; and a fresh one where its time is not before the last heard
abbrev pub Resumes : Type 0
Resumes =
    (limit : ℕ) (n : Sizes) (es : List Event) (time : ℕ)
    → (answer_of (end_of limit n es) (Connect Resuming time)
    ≡ cond (ltb time (tale limit n es).heard) 10
    (cond ((kept limit n es).whole && leb 1 (last_of (kept limit n es).base (kept limit n es).numbers)) 0 20))
    × (answer_of (end_of limit n es) (Connect Fresh time) ≡ cond (ltb time (tale limit n es).heard) 10 0)

-- FOR THE DESK. While the badge is green, every counted message that came since the connect has been met, in its order, none left out
abbrev pub NoneLeftOut : Type 0
NoneLeftOut =
    (limit : ℕ) (n : Sizes) (es : List Event) (time : ℕ) → is_green (end_of limit n es) time ≡ true
    → ((kept limit n es).came ≡ (kept limit n es).met)
    × ((kept limit n es).met ≡ up_to (length (kept limit n es).met))
