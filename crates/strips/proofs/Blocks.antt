-- What the code of src/words.rt comes to, return by return (specs/Words, specs/Code/Shapes). Assumes nothing.
use Prim.Native.Nat.{ℕ, ◌+◌, ◌-◌, ◌*◌, ◌%◌, ◌^◌, ◌≤◌, ◌<◌}
use native.Mathlib.Omega.{arith}
use mathlib.Core.Path.{◌≡◌, refl, sym, ap, ◌∙◌}
use mathlib.Core.Bool.{Bool, true, false, true≢false}
use mathlib.Core.List.{List}
use lib.Bits.{bit_or}
use lib.Dec.{ltb}
use lib.ListN.{get_or, set}
use lib.Pow.{pow-lt}
use borrow.Author.Tests.{lt-ltb, le-ltb, eq-eqb, ne_eqb}
use Rattle.std.specs.List.{list_all, range_with_len}
use Rattle.std.specs.Prelude.{Option, Some, None, Ok, Err}
use Rattle.ground.specs.declared.Refusal.TheVariants.{Unsound}
use Rattle.wire.specs.Units.{msg_type}
use Rattle.strips.specs.Forms.{Field, fields_of, sorts, brings}
use Rattle.strips.specs.Words.{value_count, strip_of, sound_value, sound_from, sound_strip, sound, stored, stored_all, strip_after}
use Rattle.strips.specs.Code.Shapes.{shape_if, field_of, fields_from, sound_strip_of, Spans, Sized}
use Rattle.strips.specs.declared.Shape.{Shape}
use Rattle.strips.specs.declared.Strip.{Strip}
use Rattle.strips.proofs.Lists.{found, not_found, same_fields, number_is, from_more}

-- a strip is sound where its flags and its values are, one by one
values_sound : (s : Strip) → list_all (λ (k : ℕ). sound_value (field_of k).sort k s) (range_with_len 0 value_count) ≡ sound_from 0 sorts s
unfolding sound_from field_of fields_of
values_sound s = refl

pub flags_few : (s : Strip) (b : Bool) → s.flags < 512 → b ≡ list_all (λ (k : ℕ). sound_value (field_of k).sort k s) (range_with_len 0 value_count) → b ≡ sound_strip s
unfolding sound_strip
flags_few s b l h = h ∙ values_sound s ∙ rw (lt-ltb s.flags 512 l)

pub flags_high : (s : Strip) → 512 ≤ s.flags → ltb s.flags 512 ≡ sound_strip s
unfolding sound_strip
flags_high s h = rw (le-ltb s.flags 512 h)

-- a value comes
pub stored_told : (k v : ℕ) (s : Strip) → k < value_count → ◌≡◌ {A = Strip}
    (record { flags = bit_or s.flags (1 * 2 ^ k % 18446744073709551616); values = set s.values k v }) (stored k v s)
unfolding stored
stored_told k v s h =
    let l : 2 ^ k < 2 ^ 64 = pow-lt {i = k} {j = 64} (omega (arith, h)) in
    let e : 1 * 2 ^ k % 18446744073709551616 ≡ 2 ^ k = omega (arith, l) in
    rw e

-- one value after the other: what is still to come from the k-th on makes what all make
pub record Storing (m : List ℕ) (s : Strip) (r : Shape) (x : Strip) (k : ℕ) : Type 0 where
  pub same : stored_all m (fields_from k (r.first + r.count - k)) x ≡ stored_all m (fields_from r.first r.count) s

pub store_starts : (m : List ℕ) (s : Strip) (r : Shape) → Storing m s r s r.first
store_starts m s r =
    let e : r.first + r.count - r.first ≡ r.count = omega arith in
    record { same = ap (λ (n : ℕ). stored_all m (fields_from r.first n) s) e }

module _ (m : List ℕ) (s : Strip) (r : Shape) (x : Strip) (k : ℕ) (p : Storing m s r x k) where
  pub store_goes : (v : ℕ) (y : Strip) → k < r.first + r.count → Spans m r.first r.count → v ≡ brings m (field_of k) → y ≡ stored k v x → Storing m s r y (k + 1)
  unfolding stored_all
  store_goes v y h z e g =
      let n : ℕ = r.first + r.count - k in
      let d : r.first + r.count - (k + 1) ≡ n - 1 = omega arith in
      let more : 0 < n = omega (arith, h) in
      record {
        same =
            rw d
            (ap (stored_all m (fields_from (k + 1) (n - 1)))
            (g ∙ (λ i. stored (sym (number_is k (omega (arith, z.few, h))) i) (e i) x))
            ∙ ap (λ (fs : List Field). stored_all m fs x) (sym (from_more k n more)) ∙ p.same);
      }

  pub store_ends : r.first + r.count ≤ k → x ≡ stored_all m (fields_from r.first r.count) s
  unfolding stored_all fields_from
  store_ends h =
      let e : r.first + r.count - k ≡ 0 = omega (arith, h) in
      rw e at p.same

-- what a message of a shape makes of a strip, and one of none
pub after_told : (m : List ℕ) (s x : Strip) (o : Option Shape) (r : Shape) → o ≡ shape_if (msg_type m) → o ≡ Some r → x ≡ stored_all m (fields_from r.first r.count) s
    → x ≡ strip_after m s
unfolding strip_after
after_told m s x o r g e h = h ∙ rw (found (msg_type m) o r g e).same (ap (λ (fs : List Field). stored_all m fs s) (same_fields (msg_type m)))

pub after_none : (m : List ℕ) (s : Strip) → Sized m → None ≡ shape_if (msg_type m) → s ≡ strip_after m s
after_none m s z e = absurd (true≢false (sym z.listed ∙ not_found (msg_type m) e))

-- a slot's words: its spare one, and its strip
module _ (w : List ℕ) where
  pub spare_used : (get_or w 11 0 ≡ 0 → ⊥) → false ≡ sound w
  unfolding sound
  spare_used n = rw (ne_eqb (get_or w 11 0) 0 n)

  pub sound_is : get_or w 11 0 ≡ 0 → (s : Strip) (b : Bool) → s ≡ strip_of w → b ≡ sound_strip s → b ≡ sound w
  unfolding sound
  sound_is z s b e h = rw (eq-eqb (get_or w 11 0) 0 z) (h ∙ ap sound_strip e)

  module _ (b : Bool) (h : b ≡ sound w) where
    pub words_sound : (s : Strip) → s ≡ strip_of w → b ≡ true → Ok s ≡ sound_strip_of w
    words_sound s e y = rw (sym h ∙ y) (ap Ok e)

    pub words_unsound : b ≡ false → Err Unsound ≡ sound_strip_of w
    words_unsound n = rw (sym h ∙ n)

pub ruleset storing = (store_starts, store_goes, store_ends)

pub ruleset sounding = (spare_used, sound_is)

pub ruleset reading = (words_sound, words_unsound)
