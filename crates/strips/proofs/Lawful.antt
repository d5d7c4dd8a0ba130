-- Strips are a lawful layout (slots/proofs/Lawful): so the laws of slots/proofs hold of the table of strips. Assumes nothing.
use Prim.Native.Nat.{ℕ, zero, suc, ◌+◌}
use native.Mathlib.Omega.{arith}
use mathlib.Core.Path.{◌≡◌, refl, sym, ap, ◌∙◌}
use mathlib.Core.Bool.{true}
use mathlib.Core.List.{List, [], ◌∷◌}
use lib.Dec.{eqb}
use lib.ListN.{length, get_or}
use Rattle.ground.proofs.Bools.{both}
use Rattle.slots.proofs.Lawful.{Lawful}
use Rattle.strips.specs.Forms.{fields_of}
use Rattle.strips.specs.Words.{value_count, spare_at, words_from, strip_of, words_of, come, legal, sound_from, sound_strip, sound}
use Rattle.strips.specs.Table.{strips}
use Rattle.strips.specs.declared.Strip.{Strip}

-- a strip has nine values; a sound one is as document 02 asks
abbrev pub Nine : Strip → Type 0
Nine s = length s.values ≡ value_count

abbrev pub Well : Strip → Type 0
Well s = (length s.values ≡ value_count) × (sound_strip s ≡ true)

-- words from behind the first on are those of the rest
from_rest : (n at x : ℕ) (l : List ℕ) → words_from n (suc at) (x ∷ l) ≡ words_from n at l
unfolding words_from
from_rest zero at x l = refl
from_rest (suc n) at x l =
    let e : suc at + 1 ≡ suc (at + 1) = omega arith in
    rw (e, from_rest n (at + 1) x l)

-- as many as there are, from the first on, are all of them
from_all : (l : List ℕ) → words_from (length l) 0 l ≡ l
unfolding words_from
from_all [] = refl
from_all (x ∷ l) = ap (λ (m : List ℕ). x ∷ m) (from_rest (length l) 0 x l ∙ from_all l)

-- a strip of nine values is read back from its words
strip_back : (c : ℕ) (s : Strip) → Nine s → strip_of (words_of c s) ≡ s
unfolding strip_of words_of words_from
strip_back c s n =
    let e : words_from value_count 0 s.values ≡ s.values = ap (λ (k : ℕ). words_from k 0 s.values) (sym n) ∙ from_all s.values in
    λ i. record { flags = s.flags; values = e i }

-- a strip of nine values is read back; a sound one is written as a sound block
pub lawful : Lawful strips Nine Well
unfolding strip_of words_of words_from sound sound_strip sound_from come legal fields_of
lawful = record {
  wide = omega arith;
  whole = λ c s. refl;
  opens = λ c s. refl;
  back = strip_back;
  sounds = λ c s w. ap sound_strip (strip_back c s w.0) ∙ w.1;
  fit = λ w h. refl;
  well = λ w h. (refl, (both (eqb (get_or w spare_at 0) 0) (sound_strip (strip_of w)) h).1);
  fit_empty = refl;
  well_empty = (refl, refl);
  zeros = refl;
}
