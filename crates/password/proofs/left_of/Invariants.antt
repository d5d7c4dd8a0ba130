use lib.ListN.{drop}
use mathlib.Core.Path.{◌≡◌}
use Prim.Native.Nat.{◌+◌}
use Rattle.password.specs.Rule.{total}
use Rattle.password.proofs.left_of.Given as goal

abbrev pub invariant-loop-n : goal.invariant-loop-n
invariant-loop-n l = l.left + total l.lengths ≡ l.bytes + total (drop l.n-index l.lengths)
