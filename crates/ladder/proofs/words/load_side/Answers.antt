use Prim.Native.Nat.{ℕ, ◌+◌, ◌*◌}
use mathlib.Core.Path.{ap, sym, ◌∙◌}
use borrow.Author.Rules.{rules}
use lib.ListN.{drop}
use Rattle.ladder.specs.Message.{depth}
use Rattle.ladder.specs.Sides.{no_row}
use Rattle.ladder.specs.Words.{row_width, row_of, rows_from}
use Rattle.ladder.specs.Code.Loading.{rows_at}
use Rattle.ladder.proofs.Loads.{rows_ten, row_is}
use Rattle.ladder.proofs.Made.{made}
use Rattle.ladder.proofs.words.load_side.Goals as goal

pub returns : goal.returns
returns c =
    let at = rows_at c.args.way in
    let w = c.args.block.now in
    made _ _ (rows_from at w) c.from_fn.result no_row depth (rows_ten at w)
    (λ i t.
    let e = row_is at w i t ∙ ap (λ (b : ℕ). row_of (drop (b + row_width * i) w)) (sym c.rows_at-base.ensures.0) in
    record { gives = λ y f' k. search (rules, e) })
    c.from_fn.ensures.items
