use borrow.Author.Rules.{rules}
use Rattle.ladder.specs.Message.{depth}
use Rattle.ladder.specs.Code.Loading.{rows_at, count_in}
use Rattle.ladder.proofs.Made.{made}
use Rattle.books.specs.Reading.{row_refused, level_of}
use Rattle.books.proofs.Sides.{levels_of_side, levels_ten, level_at_lem, side_whole}
use Rattle.books.proofs.Sound.side.Goals as goal

pub returns : goal.returns
returns c =
    let way = c.args.way in
    let w = c.args.self.words.now in
    let at = rows_at way in
    let n = count_in way w in
    side_whole way w _ c.from_fn.result c.args.self.right c.count_at.ensures.0
    (made _ _ (levels_of_side at n w) c.from_fn.result (level_of (row_refused 0)) depth (levels_ten at n w)
    (λ i t.
    let e = level_at_lem at n w i t in
    record { gives = λ y f' k. search (rules, e) })
    c.from_fn.ensures.items)
