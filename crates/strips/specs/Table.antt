-- A strip message on the lent table of strips (document 02, request 2: "Slots, 17 and 18 work as for books"). Assumes nothing.
use Rattle.std.specs.Prelude.{ℕ, Bool, true, List}
use Rattle.std.proofs.Math.Option.{some}
use Rattle.wire.specs.Codes.{security_code}
use Rattle.slots.specs.Slots.{max_slots}
use Rattle.slots.specs.Layout.{Layout, Step, place_in, unsound_at, none_free, value_in, stepped}
use Rattle.strips.specs.Words.{strip_width, strip_of, words_of, empty_strip, sound, strip_after}
use Rattle.strips.specs.declared.Strip.{Strip}

-- "A second lent table, 12 words a security": what holds of any table of slots is said in slots/specs/Layout
abbrev pub strips : Layout Strip
strips = record { width = strip_width; most = max_slots; sound = sound; read = strip_of; words = words_of; empty = empty_strip }

-- what a message asks of the table: a code without a strip takes a slot, and every strip can take its values (never 16)
abbrev pub step_of : List ℕ → Step Strip
step_of m = record { code = security_code m; takes = true; makes = λ s. some (strip_after m s) }

-- the strip of a code in a table, nothing where it has none
abbrev pub strip_in : ℕ → List ℕ → Strip
strip_in c t = value_in strips c t

-- 18: that code's strip not sound
unfoldable pub unsound : List ℕ → List ℕ → Bool
unsound m t = unsound_at strips (place_in strips (security_code m) t) t

-- 17: the code has no strip and no slot is free
unfoldable pub no_slot : List ℕ → List ℕ → Bool
no_slot m t = none_free (place_in strips (security_code m) t)

-- the table after a message that is taken
unfoldable pub strips_after : List ℕ → List ℕ → List ℕ
strips_after m t = stepped strips (step_of m) t
