use mathlib.Core.Path.{◌≡◌}
use Rattle.ladder.proofs.Walks.{Walking}
use Rattle.ladder.proofs.walking.walk.Given as goal

abbrev pub invariant-walk : goal.invariant-walk
invariant-walk l =
    Walking l.time l.entries.part.now l.entries.n l.initial.rows l.initial.counts l.rows l.counts l.dropped l.steps.start
    × (l.steps.end ≡ l.entries.n) × (l.words ≡ l.initial.words)
