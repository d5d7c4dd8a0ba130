-- A side read at once and its rows read one by one, whatever the table: proved in proofs/Sides. Assumes nothing.
use Rattle.std.specs.Prelude.{ℕ, ◌-◌, ◌≤◌, ◌<◌, ◌≡◌, List, get_or, pos}
use Rattle.ladder.specs.Message.{depth}
use Rattle.books.specs.Reading.{row_refused}
use Rattle.books.specs.Promised.{RowSays, SideSays}
use Rattle.books.specs.declared.Level.{Level}
use Rattle.books.specs.Reading.{RowRead}
use Rattle.books.specs.Reading.{SideRead}

-- the row of a side at a rank, as a single read hands it back
abbrev pub no_level : Level
no_level = record { price = pos 0; quantity = 0; orders = 0 }

abbrev pub level_at : SideRead → ℕ → Level
level_at s rank = get_or s.rows (rank - 1) no_level

abbrev pub shown_at : SideRead → ℕ → RowRead
shown_at s rank = record { answer = 0; price = (level_at s rank).price; quantity = (level_at s rank).quantity; orders = (level_at s rank).orders }

-- what read_side and read_row hand back for one table, code and side, at a rank from 1 to 10
pub record Both (t : List ℕ) (code side rank : ℕ) (s : SideRead) (r : RowRead) : Type 0 where
  pub whole : SideSays t code side s
  pub single : RowSays t code side rank r
  pub low : 1 ≤ rank
  pub high : rank ≤ depth

-- where a side is read, a rank up to its count has the row that the single read gives, and beyond it the single read answers 4:
-- a repaint by sides shows what single reads show
abbrev pub SideTells : Type 0
SideTells =
    (t : List ℕ) (code side rank : ℕ) (s : SideRead) (r : RowRead) → Both t code side rank s r → s.answer ≡ 0
    → (rank ≤ s.count → r ≡ shown_at s rank) × (s.count < rank → r ≡ row_refused 4)

-- where it is not, the single read is refused with the same answer, and the side has no rows: a count of 0, and zeros
abbrev pub SideRefuses : Type 0
SideRefuses =
    (t : List ℕ) (code side rank : ℕ) (s : SideRead) (r : RowRead) → Both t code side rank s r → (s.answer ≡ 0 → ⊥)
    → (r ≡ row_refused s.answer) × (s.count ≡ 0) × (level_at s rank ≡ no_level)
