-- A listed message leaves a sound strip sound (specs/Forms, specs/Words). Assumes nothing.
use Prim.Native.Nat.{ℕ, zero, suc, ◌+◌, ◌^◌, ◌≤◌, ◌<◌}
use native.Mathlib.Decide.{ℕ_discrete}
use native.Mathlib.Omega.{arith}
use mathlib.Core.Path.{◌≡◌, refl, sym, subst, ◌∙◌}
use mathlib.Core.Bool.{true, true≢false}
use mathlib.Core.List.{List, [], ◌∷◌}
use mathlib.Core.Option.{some-injective}
use lib.Bits.{bit_or, or_lt}
use lib.Dec.{ltb}
use lib.ListN.{length, get_or, length-set}
use lib.Pow.{pow-lt}
use borrow.Author.Tests.{ltb-true, lt-ltb}
use Rattle.ground.specs.Choice.{all}
use Rattle.ground.proofs.Bools.{both, join}
use Rattle.wire.specs.Number.{field, biased, word32}
use Rattle.wire.specs.Units.{msg_type}
use Rattle.wire.specs.Codes.{security_code, listed_code}
use Rattle.slots.proofs.Steps.{Preserves, Modest}
use Rattle.strips.specs.Forms.{Field, form_in, sorts, value_of, brings, listed_as, listed_field, listed_strip}
use Rattle.strips.specs.Words.{value_count, legal, sound_value, sound_from, sound_strip, stored, stored_all, strip_after}
use Rattle.strips.specs.Code.Shapes.{shape_of, field_of, fields_from}
use Rattle.strips.specs.Table.{strips, step_of}
use Rattle.strips.specs.declared.Sort.{Sort}
use Rattle.strips.specs.declared.Sort.TheVariants.{Price, Quantity, Direction, Imbalance}
use Rattle.strips.specs.declared.Strip.{Strip}
use Rattle.strips.proofs.Lists.{same_fields, few_values, number_is, sort_is}
use Rattle.strips.proofs.Bits.{come_own, value_own, come_other, value_other}
use Rattle.strips.proofs.Lawful.{Nine, Well}

-- a listed field brings what its kind can be
brought_legal : (q : Sort) (m : List ℕ) (raw : ℕ) → listed_as q raw ≡ true → legal q (value_of q m raw) ≡ true
unfolding listed_as legal value_of biased
brought_legal Price m raw h = lt-ltb (biased raw) word32 (omega arith)
brought_legal Quantity m raw h = refl
brought_legal Direction m raw h = h
brought_legal Imbalance m raw h = refl

-- a strip stays sound where a value of its kind comes, one that it can be
module _ (k v : ℕ) (s : Strip) (long : k < length s.values) where
  value_sound : (q : Sort) (j : ℕ) → (j ≡ k → legal q v ≡ true) → sound_value q j s ≡ true → sound_value q j (stored k v s) ≡ true
  value_sound q j own h = go (ℕ_discrete j k)
    where
      go : Dec (j ≡ k) → sound_value q j (stored k v s) ≡ true
      go (yes e) = rw (e, come_own k v s, value_own k v s long) (own e)
      go (no e) = rw (come_other k v s j e, value_other k v s j e) h

  from_sound : (qs : List Sort) (i : ℕ) → ((j : ℕ) → j < length qs → i + j ≡ k → legal (get_or qs j Price) v ≡ true)
      → sound_from i qs s ≡ true → sound_from i qs (stored k v s) ≡ true
  unfolding sound_from
  from_sound [] i own h = refl
  from_sound (q ∷ qs) i own h =
      let t = both (sound_value q i s) (sound_from (i + 1) qs s) h in
      join (sound_value q i (stored k v s)) (sound_from (i + 1) qs (stored k v s))
      (value_sound q i (λ e. own 0 (omega arith) (omega (arith, e))) t.0)
      (from_sound qs (i + 1) (λ j l e. own (suc j) (omega (arith, l)) (omega (arith, e))) t.1)

-- storing keeps nine values
stored_nine : (k v : ℕ) (s : Strip) → Nine s → Nine (stored k v s)
unfolding stored
stored_nine k v s n = length-set s.values k v ∙ n

stored_well : (k v : ℕ) (s : Strip) → k < value_count → legal (get_or sorts k Price) v ≡ true → Well s → Well (stored k v s)
unfolding sound_strip stored
stored_well k v s l h w =
    let t = both (ltb s.flags 512) (sound_from 0 sorts s) w.1 in (
      stored_nine k v s w.0,
      join (ltb (bit_or s.flags (2 ^ k)) 512) (sound_from 0 sorts (stored k v s))
          (lt-ltb (bit_or s.flags (2 ^ k)) 512 (or_lt value_count s.flags (2 ^ k) (ltb-true s.flags 512 t.0) (pow-lt l)))
          (from_sound k v s (omega (arith, w.0)) sorts 0 (λ j b e. let f : k ≡ j = omega (arith, e) in subst (λ (n : ℕ). legal (get_or sorts n Price) v ≡ true) f h) t.1),
    )

-- so do the fields of a message, one after the other
all_nine : (m : List ℕ) (fs : List Field) (s : Strip) → Nine s → Nine (stored_all m fs s)
unfolding stored_all
all_nine m [] s n = n
all_nine m (f ∷ fs) s n = all_nine m fs (stored f.number (brings m f) s) (stored_nine f.number (brings m f) s n)

all_well : (m : List ℕ) (k n : ℕ) (s : Strip) → k + n ≤ value_count → all (listed_field m) (fields_from k n) ≡ true → Well s → Well (stored_all m (fields_from k n) s)
unfolding stored_all all fields_from
all_well m k zero s l h w = w
all_well m k (suc n) s l h w =
    let f = field_of k in
    let v = brings m f in
    let t = both (listed_field m f) (all (listed_field m) (fields_from (k + 1) n)) h in
    let low : k < value_count = omega (arith, l) in
    let q : legal (get_or sorts k Price) v ≡ true =
    subst (λ (q : Sort). legal q v ≡ true) (sym (sort_is k)) (brought_legal f.sort m (field f.at f.width m) t.0) in
    let x : Well (stored f.number v s) = rw (number_is k low) (stored_well k v s low q w) in
    all_well m (k + 1) n (stored f.number v s) (omega (arith, l)) t.1 x

-- THE LAWS: a message keeps nine values, and a listed one a sound strip
fits : (m : List ℕ) (s : Strip) → Nine s → Nine (strip_after m s)
unfolding strip_after
fits m s n = all_nine m (form_in m).fields s n

strip_keeps : (m : List ℕ) (s : Strip) → listed_strip m ≡ true → Well s → Well (strip_after m s)
unfolding strip_after listed_strip
strip_keeps m s h w =
    let r = shape_of (msg_type m) in
    let l : all (listed_field m) (form_in m).fields ≡ true = (both (listed_code (security_code m)) (all (listed_field m) (form_in m).fields) h).1 in
    rw (← same_fields (msg_type m)) (all_well m r.first r.count s (few_values (msg_type m)) (rw (← same_fields (msg_type m)) at l) w)

-- the same of a step on the table (slots/proofs/Steps), which always takes a slot
pub step_fits : (m : List ℕ) → Preserves Nine (step_of m).makes
step_fits m a b n e = subst Nine (some-injective (strip_after m a) b e) (fits m a n)

pub step_keeps : (m : List ℕ) → listed_strip m ≡ true → Preserves Well (step_of m).makes
step_keeps m h a b w e = subst Well (some-injective (strip_after m a) b e) (strip_keeps m a h w)

pub step_modest : (m : List ℕ) → Modest strips (step_of m)
step_modest m e = absurd (true≢false e)
