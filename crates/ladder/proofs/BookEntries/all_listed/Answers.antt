use Prim.Native.Nat.{◌*◌}
use mathlib.Core.Path.{refl, ◌∙◌}
use native.Mathlib.Omega.{arith}
use borrow.Author.Rules.{rules}
use Rattle.std.proofs.lemmas.Iterator.{YieldsList-from_range}
use Rattle.std.proofs.lemmas.Iterator.Search.{all_from_yields_List}
use Rattle.ladder.proofs.Walks.{each_listed}
use Rattle.ladder.specs.Message.{entry_size, entry_at, listed_entry}
use Rattle.ladder.proofs.BookEntries.all_listed.Goals as goal

pub returns : goal.returns
returns c = all_from_yields_List (λ i. listed_entry (entry_at (entry_size * i) c.args.self.part.now)) _ _ _ c.all.ensures.ran (YieldsList-from_range 0 c.args.self.n c.args.self.n refl (omega arith)) (λ x b q k. search rules) ∙ each_listed 0 c.args.self.n c.args.self.part.now
