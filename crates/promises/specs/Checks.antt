-- What a case is and when it holds: runs of calls, rows read, badges asked. Assumes nothing.
use Rattle.std.specs.Prelude.{ℕ, Bool, true, false, cond, ◌&&◌, List, [], ◌∷◌, ℤ, pos, negsuc, eqb}
use Prim.Native.String.{String}
use Rattle.std.specs.Bool.{beq}
use Rattle.ground.specs.Choice.{same}
use Rattle.books.specs.Reading.{read_row, read_side}
use Rattle.books.specs.declared.Level.{Level}
use Rattle.books.specs.Reading.{RowRead}
use Rattle.books.specs.Reading.{SideRead}
use Rattle.feed.specs.Feeds.{phase_no, badge_no, badge_of}
use Rattle.feed.specs.Events.{State, Event}
use Rattle.feed.specs.Steps.{Outcome, outcome}
use Rattle.feed.specs.declared.Feed.{Feed}
use Rattle.feed.specs.declared.Given.{Given}

-- a case by its name, and whether it holds
pub record Check : Type 0 where
  pub name : String
  pub holds : Bool

-- the names of those that do not hold
unfoldable pub wrong : List Check → List String
wrong [] = []
wrong (c ∷ cs) = cond c.holds (wrong cs) (c.name ∷ wrong cs)

unfoldable pub same_feed : Feed → Feed → Bool
same_feed f g =
    eqb (phase_no f.phase) (phase_no g.phase) && eqb f.next g.next && eqb f.internal g.internal
    && eqb f.heard g.heard && eqb f.limit g.limit && beq f.whole g.whole && beq f.fresh g.fresh

unfoldable pub same_given : Given → Given → Bool
same_given a b = eqb a.answer b.answer && eqb a.used b.used && same_feed a.feed b.feed && eqb a.dropped b.dropped

-- a call, and all that it must hand back but for the feed and the tables
pub record Call : Type 0 where
  pub event : Event
  pub answer : ℕ
  pub used : ℕ
  pub dropped : ℕ

-- where a run must end: the feed, every word of the books and of the strips, and the badge's number at some times
pub record End : Type 0 where
  pub feed : Feed
  pub words : List ℕ
  pub strips : List ℕ
  pub badges : List (ℕ × ℕ)

unfoldable pub same_badges : Feed → List (ℕ × ℕ) → Bool
same_badges f [] = true
same_badges f (b ∷ bs) = eqb (badge_no (badge_of f b.0)) b.1 && same_badges f bs

unfoldable pub same_end : State → End → Bool
same_end s e = same_feed s.feed e.feed && same s.tables.books e.words && same s.tables.strips e.strips && same_badges s.feed e.badges

-- calls one after the other from a state, each answered as told, and the end as told
unfoldable pub runs : State → List Call → End → Bool
runs s [] e = same_end s e
runs s (c ∷ cs) e =
    let o : Outcome = outcome s c.event in
    let rest : Bool = runs (record { feed = o.given.feed; tables = o.tables }) cs e in
    eqb o.given.answer c.answer && eqb o.given.used c.used && eqb o.given.dropped c.dropped && rest

unfoldable pub same_number : ℤ → ℤ → Bool
same_number (pos m) (pos n) = eqb m n
same_number (pos m) (negsuc n) = false
same_number (negsuc m) (pos n) = false
same_number (negsuc m) (negsuc n) = eqb m n

-- a row read out of a table
unfoldable pub reads : List ℕ → ℕ → ℕ → ℕ → RowRead → Bool
reads t c side rank told =
    let r : RowRead = read_row c side rank t in
    eqb r.answer told.answer && same_number r.price told.price && eqb r.quantity told.quantity && eqb r.orders told.orders

-- a side read out of a table, all its ten rows
unfoldable pub same_levels : List Level → List Level → Bool
same_levels [] [] = true
same_levels [] (y ∷ ys) = false
same_levels (x ∷ xs) [] = false
same_levels (x ∷ xs) (y ∷ ys) = same_number x.price y.price && eqb x.quantity y.quantity && eqb x.orders y.orders && same_levels xs ys

unfoldable pub reads_side : List ℕ → ℕ → ℕ → SideRead → Bool
reads_side t c side told =
    let s : SideRead = read_side c side t in
    eqb s.answer told.answer && eqb s.count told.count && same_levels s.rows told.rows
