use Prim.Native.Nat.{◌+◌}
use lib.ListN.{length}
use mathlib.Core.List.{[], ◌∷◌, ◌++◌}
use mathlib.Core.Path.{◌≡◌}
use borrow.Author.Rules.{rules}
use borrow.Author.Tests.{tests}
use Rattle.ladder.specs.Message.{depth}
use Rattle.ladder.specs.Sides.{no_row, delete_rows}
use Rattle.ladder.proofs.Made.{made}
use Rattle.ladder.proofs.Moves.{gone_ten, gone_at}
use Rattle.ladder.proofs.sides.drop_row.Goals as goal

pub returns : goal.returns
returns c =
    let ten : length c.args.rows ≡ depth = search rules in
    made _ _ (delete_rows (c.args.at + 1) c.args.rows ++ (no_row ∷ [])) c.from_fn.result no_row depth (gone_ten c.args.rows ten c.args.at c.requires)
    (λ i t.
    let e = gone_at c.args.rows ten c.args.at i c.requires t in
    record { gives = λ y f' k. search (rules, tests, e) })
    c.from_fn.ensures.items
