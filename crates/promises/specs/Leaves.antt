-- What a call leaves alone, for any feed and any table. Each is proved in proofs/Leaves, under its name with a small letter. Assumes nothing.
use Rattle.std.specs.Prelude.{ℕ, ◌*◌, ◌≡◌, Bool, true, false, ◌||◌, List, length, drop, replicate}
use Rattle.slots.specs.Slots.{code_of}
use Rattle.slots.specs.Layout.{Layout, count_in, slots_in, block}
use Rattle.books.specs.Table.{books}
use Rattle.strips.specs.Table.{strips}
use Rattle.feed.specs.Messages.{kind, on_market, tabled}
use Rattle.feed.specs.Events.{State, Event, news, on_message}
use Rattle.feed.specs.Steps.{clears, outcome}
use Rattle.feed.specs.declared.Kind.{Kind}
use Rattle.feed.specs.declared.Kind.TheVariants.{Session, Market}

-- a message that clears: a logon with 101, and with 0 or 2 after a fresh connect (feed/specs/Steps)
unfoldable pub wipes : Bool → Kind → List ℕ → Bool
wipes fresh (Session k) m = clears k m fresh
wipes fresh (Market d) m = false

-- an event that brings such a logon; or that or a message for a table
unfoldable pub clearing : State → Event → Bool
clearing s e = on_message (λ seq internal m. wipes s.feed.fresh (kind m) m) (news e)

unfoldable pub writing : State → Event → Bool
writing s e = on_message (λ seq internal m. on_market tabled (kind m) || wipes s.feed.fresh (kind m) m) (news e)

-- Seen, Passed, heartbeats, session messages that do not clear, connects, and whatever is refused, leave every word: only what is answered 0 and is
-- a book message, a strip message or clears can change one
abbrev pub Leaves : Type 0
Leaves = (s : State) (e : Event) → ((outcome s e).given.answer ≡ 0 → writing s e ≡ false) → (outcome s e).tables ≡ s.tables

-- every slot is zeros, and the words behind the slots are as they were
abbrev pub Wiped : {A : Type 0} → Layout A → List ℕ → List ℕ → Type 0
Wiped L t u =
    (slots_in L u ≡ replicate (count_in L (length t)) (replicate L.width 0))
    × (drop (L.width * count_in L (length t)) u ≡ drop (L.width * count_in L (length t)) t)
    × (length u ≡ length t)

-- a clearing does that to both tables
abbrev pub WipesSlots : Type 0
WipesSlots =
    (s : State) (e : Event) → (outcome s e).given.answer ≡ 0 → clearing s e ≡ true
    → Wiped books s.tables.books (outcome s e).tables.books
    × Wiped strips s.tables.strips (outcome s e).tables.strips

-- a slot that has a code keeps it
abbrev pub Keeps : {A : Type 0} → Layout A → List ℕ → List ℕ → Type 0
Keeps L t u = (j : ℕ) → (code_of (block L j t) ≡ 0 → ⊥) → code_of (block L j u) ≡ code_of (block L j t)

-- nothing but a clearing frees a slot, of either table
abbrev pub KeepsSlots : Type 0
KeepsSlots =
    (s : State) (e : Event) → ((outcome s e).given.answer ≡ 0 → clearing s e ≡ false)
    → Keeps books s.tables.books (outcome s e).tables.books
    × Keeps strips s.tables.strips (outcome s e).tables.strips
