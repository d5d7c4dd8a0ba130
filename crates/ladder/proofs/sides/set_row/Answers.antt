use lib.ListN.{length, set, length-set}
use mathlib.Core.Path.{◌≡◌, ◌∙◌}
use borrow.Author.Rules.{rules}
use Rattle.ladder.specs.Message.{depth}
use Rattle.ladder.specs.Sides.{no_row}
use Rattle.ladder.proofs.Made.{made}
use Rattle.ladder.proofs.Moves.{set_one}
use Rattle.ladder.proofs.sides.set_row.Goals as goal

pub returns : goal.returns
returns c =
    let ten : length c.args.rows ≡ depth = search rules in
    made _ _ (set c.args.rows c.args.at c.args.row) c.from_fn.result no_row depth (length-set c.args.rows c.args.at c.args.row ∙ ten)
    (λ i t.
    let e = set_one c.args.rows ten c.args.at c.args.row i t in
    record { gives = λ y f' k. search (rules, e) })
    c.from_fn.ensures.items
