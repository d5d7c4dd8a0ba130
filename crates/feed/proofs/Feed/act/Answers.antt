use mathlib.Core.Path.{◌≡◌}
use Rattle.feed.specs.Steps.{lent}
use Rattle.feed.specs.Code.Judging.{cleared_if}
use Rattle.feed.proofs.Rows.{rows}
use Rattle.feed.proofs.Feed.act.Goals.{then-is_clearing, else-is_clearing}
use Rattle.feed.proofs.Feed.act.Goals as goal

pub returns-after-is_clearing : goal.returns-after-is_clearing
returns-after-is_clearing c =
    let p = c.if-is_clearing in
    let w : lent p.books p.strips ≡ cleared_if c.is_clearing.result (lent c.args.books.now c.args.strips.now) =
    elim p.branch [ then-is_clearing w ↦ search rows | else-is_clearing w ↦ search rows ] in
    search (w, rows)

pub take-requires-in-Strip : goal.take-requires-in-Strip
take-requires-in-Strip c = search rows

pub returns-in-Book : goal.returns-in-Book
returns-in-Book c = search rows

pub returns-in-Strip : goal.returns-in-Strip
returns-in-Strip c = search rows
