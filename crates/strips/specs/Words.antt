-- A security's strip: its values, its twelve words, and whether they are sound (document 02, request 2). Assumes nothing.
use Rattle.std.specs.Prelude.{ℕ, zero, suc, ◌+◌, ◌/◌, ◌%◌, ◌^◌, Bool, true, cond, ◌&&◌, List, [], ◌∷◌, ◌++◌, get_or, set, replicate, ltb, eqb}
use Rattle.std.specs.Int.Bits.{bit_or}
use Rattle.ground.specs.Choice.{one_of}
use Rattle.wire.specs.Number.{word32}
use Rattle.strips.specs.Forms.{Field, form_in, sorts, directions, brings}
use Rattle.strips.specs.declared.Sort.{Sort}
use Rattle.strips.specs.declared.Sort.TheVariants.{Price, Quantity, Direction, Imbalance}
use Rattle.strips.specs.declared.Strip.{Strip}

-- "12 words a security: code, flags .., then the nine values 0 to 8 .., one spare"
abbrev pub strip_width : ℕ
strip_width = 12

abbrev pub flags_at : ℕ
flags_at = 1

abbrev pub values_at : ℕ
values_at = 2

abbrev pub value_count : ℕ
value_count = 9

abbrev pub spare_at : ℕ
spare_at = 11

-- n words from a place on (a word beyond the end counts as 0)
unfoldable pub words_from : ℕ → ℕ → List ℕ → List ℕ
words_from zero at w = []
words_from (suc n) at w = get_or w at 0 ∷ words_from n (at + 1) w

-- the strip in a slot's words, and the words of a code with a strip (strips are declared in src/lib.rt: the flags and the nine values)
unfoldable pub strip_of : List ℕ → Strip
strip_of w = record { flags = get_or w flags_at 0; values = words_from value_count values_at w }

unfoldable pub words_of : ℕ → Strip → List ℕ
words_of c s = c ∷ s.flags ∷ (words_from value_count 0 s.values ++ (0 ∷ []))

-- nothing has come
abbrev pub empty_strip : Strip
empty_strip = record { flags = 0; values = replicate value_count 0 }

-- "bit k set once value k has come"
unfoldable pub come : ℕ → Strip → Bool
come k s = eqb (s.flags / 2 ^ k % 2) 1

abbrev pub value : ℕ → Strip → ℕ
value k s = get_or s.values k 0

-- what a value that has come can be: "price words below 4,294,967,296, a direction that has come one of the four"
unfoldable pub legal : Sort → ℕ → Bool
legal Price v = ltb v word32
legal Quantity v = true
legal Direction v = one_of v directions
legal Imbalance v = true

-- "values not come .. zero"
abbrev pub sound_value : Sort → ℕ → Strip → Bool
sound_value q k s = cond (come k s) (legal q (value k s)) (eqb (value k s) 0)

-- the values of these kinds, from value k on
unfoldable pub sound_from : ℕ → List Sort → Strip → Bool
sound_from k [] s = true
sound_from k (q ∷ qs) s = sound_value q k s && sound_from (k + 1) qs s

-- "Sound: flags below 512, .. and the spare word zero"
unfoldable pub sound_strip : Strip → Bool
sound_strip s = ltb s.flags 512 && sound_from 0 sorts s

unfoldable pub sound : List ℕ → Bool
sound w = eqb (get_or w spare_at 0) 0 && sound_strip (strip_of w)

-- value k comes: "Latest message wins"
unfoldable pub stored : ℕ → ℕ → Strip → Strip
stored k v s = record { flags = bit_or s.flags (2 ^ k); values = set s.values k v }

-- the fields of a message, one after the other
unfoldable pub stored_all : List ℕ → List Field → Strip → Strip
stored_all m [] s = s
stored_all m (f ∷ fs) s = stored_all m fs (stored f.number (brings m f) s)

-- what a message makes of its code's strip
unfoldable pub strip_after : List ℕ → Strip → Strip
strip_after m s = stored_all m (form_in m).fields s
