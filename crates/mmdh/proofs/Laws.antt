-- What a connect, a call and the bytes that are left come to. Assumes nothing.
use Prim.Native.Nat.{ℕ, ◌+◌, ◌-◌, ◌≤◌}
use mathlib.Core.Path.{◌≡◌, ap, sym, ◌∙◌}
use mathlib.Core.List.{List}
use native.Mathlib.Omega.{arith}
use lib.ListN.{length, take, drop, replicate, length-drop}
use lib.Seq.{take-add, drop_at, drop-drop, length-take-le}
use Rattle.ground.specs.Choice as choice
use Rattle.feed.specs.Feeds.{listed_limit, new_given}
use Rattle.feed.specs.Events.{Tables, Connect, Arrive}
use Rattle.feed.specs.Steps.{Outcome, lent, out_of, handed, outcome}
use Rattle.feed.specs.Program.{buffer_size, connection, table_words, strip_words}
use Rattle.feed.specs.declared.Given.{Given}
use Rattle.feed.specs.declared.Link.TheVariants.{Fresh}
use Rattle.feed.proofs.Laws.{used_fits}
use Rattle.mmdh.specs.Code.Runs.{left, state_in}
use Rattle.mmdh.specs.declared.Run.{Run}
use Rattle.mmdh.specs.declared.held.Held.{Held}

-- the feed of a fresh connect is that of Program
pub connects : (new given : Given) → new ≡ new_given 1000
    → ((x : Tables) → record { given = given; tables = x } ≡ outcome (record { feed = new.feed; tables = x }) (Connect Fresh 0))
    → given.feed ≡ connection.feed
unfolding new_given listed_limit outcome handed choice.first
connects new given e h =
    let x : Tables = lent (replicate table_words 0) (replicate strip_words 0) in
    ap (λ (o : Outcome). o.given.feed) (h x) ∙ ap (λ (n : Given). (outcome (record { feed = n.feed; tables = x }) (Connect Fresh 0)).given.feed) e

-- how many bytes are left, and that they are no more than the buffer has
pub left_length : (h : Held) → length (left h) ≡ h.to - h.from
left_length h = length-take-le (h.to - h.from) (drop h.from h.bytes) (simp length-drop (omega (arith, h.inside)))

pub left_short : (h : Held) → length (left h) ≤ buffer_size
left_short h = omega (arith, left_length h, h.inside, h.size)

-- what is left once n of the bytes that are left are used
pub consumed : (h : Held) (n : ℕ) → n ≤ length (left h) → take (h.to - (h.from + n)) (drop (h.from + n) h.bytes) ≡ drop n (left h)
consumed h n g =
    let k : ℕ = h.to - (h.from + n) in
    let l : List ℕ = drop h.from h.bytes in
    let e : h.to - h.from ≡ n + k = omega (arith, left_length h) in
    let f : n ≤ length l = simp length-drop (omega (arith, left_length h, h.inside)) in
    sym (rw (e, take-add n k l) (drop_at (take n l) (take k (drop n l)) n (length-take-le n l f) ∙ ap (take k) (drop-drop n h.from h.bytes)))

-- the bytes that a call uses are among those that are left
pub call_fits : (r : Run) (g : Given) (u : Tables) → out_of g u ≡ outcome (state_in r) (Arrive (left r.held) 0) → g.used ≤ length (left r.held)
call_fits r g u e = rw (ap (λ (o : Outcome). o.given.used) e) (used_fits (state_in r) (left r.held) 0)
