use Prim.Native.Nat.{◌+◌}
use lib.ListN.{length}
use mathlib.Core.Path.{◌≡◌}
use borrow.Author.Rules.{rules}
use Rattle.ladder.specs.Message.{depth}
use Rattle.ladder.specs.Sides.{no_row, new_rows}
use Rattle.ladder.proofs.Made.{made}
use Rattle.ladder.proofs.Moves.{new_ten, new_at}
use Rattle.ladder.proofs.sides.insert_row.Goals as goal

pub returns : goal.returns
returns c =
    let ten : length c.args.rows ≡ depth = search rules in
    made _ _ (new_rows (c.args.at + 1) c.args.row c.args.rows) c.from_fn.result no_row depth (new_ten c.args.rows ten c.args.at c.args.row c.requires)
    (λ i t.
    let e = new_at c.args.rows ten c.args.at c.args.row i c.requires t in
    record { gives = λ y f' k. search (rules, e) })
    c.from_fn.ensures.items
