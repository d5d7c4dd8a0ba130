use mathlib.Core.Path.{◌≡◌}
use lib.ListN.{length, take}
use Rattle.lines.proofs.scraps.overwrite.Given as goal

abbrev pub invariant-loop-i : goal.invariant-loop-i
invariant-loop-i l = (length l.into ≡ length l.bytes) × (take l.i l.into ≡ take l.i l.bytes)
