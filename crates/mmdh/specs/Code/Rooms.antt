-- How much room a text takes, and that one is put. Assumes nothing.
use Rattle.std.specs.Prelude.{ℕ, ◌+◌, ◌*◌, ◌≤◌, ◌≡◌, List, ◌++◌, take}
use Rattle.std.proofs.Math.IntN.{sub_ℕ}
use Rattle.wire.specs.Number.{bias}
use Rattle.slots.specs.Layout.{count_in, slots_in}
use Rattle.books.specs.Table.{books}
use Rattle.ladder.specs.Message.{depth}
use Rattle.ladder.specs.declared.Row.{Row}
use Rattle.feed.specs.Program.{table_words, Line, lines, Printed}
use Rattle.mmdh.specs.declared.output.Output.{Output}

-- a number and what follows it; a price with its sign; a line; a side, a book and all books; the last line; and all of it
abbrev pub number_room : ℕ
number_room = 21

abbrev pub price_room : ℕ
price_room = number_room + 1

abbrev pub line_room : ℕ
line_room = 4 * number_room + price_room + 2

abbrev pub side_room : ℕ
side_room = line_room * depth

abbrev pub book_room : ℕ
book_room = 2 * side_room

abbrev pub slots : ℕ
slots = count_in books table_words

abbrev pub books_room : ℕ
books_room = book_room * slots

abbrev pub head_room : ℕ
head_room = 37

abbrev pub end_room : ℕ
end_room = 2 * number_room + 10

abbrev pub text_room : ℕ
text_room = head_room + books_room + end_room

-- the line of a row, as Program has it
abbrev pub line_of : ℕ → ℕ → ℕ → Row → Line
line_of code side rank r = record { code = code; side = side; rank = rank; price = sub_ℕ r.price bias; quantity = r.quantity; orders = r.orders }

-- what is printed of a table, a last answer and the units accepted
abbrev pub shown : List ℕ → ℕ → ℕ → Printed
shown table answer units = record { rows = lines (slots_in books table); answer = answer; units = units }

-- a text of at most `room` bytes is put behind the text that stood there
pub record Put (words : List ℕ) (room : ℕ) (old new : Output) : Type 0 where
  pub holds : take new.len new.bytes ≡ take old.len old.bytes ++ words
  pub few : new.len ≤ old.len + room
