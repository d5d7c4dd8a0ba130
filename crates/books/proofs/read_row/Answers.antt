use borrow.Author.Rules.{rules}
use Rattle.books.proofs.Showing.{read_held, read_unsound}
use Rattle.books.proofs.read_row.Goals as goal

pub returns-in_err-read-in-Held : goal.returns-in_err-read-in-Held
returns-in_err-read-in-Held c =
    let e = read_unsound _ _ _ _ _ _ _ _ _ c.in_ok-way.ensures c.is_rank.ensures.listed c.if-not-is_rank.false c.find.ensures c.in-Held.is c.words_in.ensures _ c.in_err-read-in-Held.ensures in
    search (rules, e)

pub returns-in_ok-read-in-Held : goal.returns-in_ok-read-in-Held
returns-in_ok-read-in-Held c =
    let book = c.in_ok-read-in-Held in
    read_held _ _ _ _ _ _ _ _ _ c.in_ok-way.ensures c.is_rank.ensures.listed c.if-not-is_rank.false c.find.ensures c.in-Held.is c.words_in.ensures _ _ book.field-0.right book.ensures c.row.ensures
