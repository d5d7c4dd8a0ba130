-- What reading a row and reading a side say, of any words: their contracts, by name. Assumes nothing.
use Rattle.std.specs.Prelude.{ℕ, ◌≡◌, List}
use Rattle.books.specs.Reading.{RowRead, SideRead, read_row, read_side}

abbrev pub RowSays : List ℕ → ℕ → ℕ → ℕ → RowRead → Type 0
RowSays t code side rank r = r ≡ read_row code side rank t

abbrev pub SideSays : List ℕ → ℕ → ℕ → SideRead → Type 0
SideSays t code side r = r ≡ read_side code side t
