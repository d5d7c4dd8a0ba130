use lib.ListN.{length, drop}
use mathlib.Core.Path.{◌≡◌}
use Rattle.ground.specs.Choice.{any, same}
use Rattle.password.specs.Rule.{total, lasts}
use Rattle.password.proofs.History.has.Given as goal

abbrev pub invariant-loop-n : goal.invariant-loop-n
invariant-loop-n l = record {
  adds_up : total (drop l.n-index l.n-items) ≡ length l.rest;
  same_answer : any (same l.new) (lasts (drop l.n-index l.n-items) l.rest) ≡ any (same l.new) l.self;
}
