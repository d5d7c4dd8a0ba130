use borrow.Author.Rules.{rules}
use Rattle.books.proofs.Sides.{side_held, held_unsound}
use Rattle.books.proofs.read_side.Goals as goal

pub returns-in_err-read-in-Held : goal.returns-in_err-read-in-Held
returns-in_err-read-in-Held c =
    let e = held_unsound _ _ _ _ _ _ _ c.in_ok-way.ensures c.find.ensures c.in-Held.is c.words_in.ensures _ c.in_err-read-in-Held.ensures in
    search (rules, e)

pub returns-in_ok-read-in-Held : goal.returns-in_ok-read-in-Held
returns-in_ok-read-in-Held c =
    let book = c.in_ok-read-in-Held in
    side_held _ _ _ _ _ _ _ c.in_ok-way.ensures c.find.ensures c.in-Held.is c.words_in.ensures _ _ book.field-0.right book.ensures c.side.ensures
