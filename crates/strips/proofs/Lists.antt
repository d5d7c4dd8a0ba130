-- The list of forms, and what the code of src/forms.rt comes to, return by return (specs/Forms, specs/Code/Shapes). Assumes nothing.
use Prim.Native.Nat.{ℕ, zero, suc, ◌+◌, ◌-◌, ◌≤◌, ◌<◌}
use native.Mathlib.Decide.{ℕ_discrete}
use native.Mathlib.Omega.{arith}
use mathlib.Core.Path.{◌≡◌, refl, sym, ap, subst, ◌∙◌}
use mathlib.Core.Bool.{Bool, true, false, cond, ◌&&◌, ◌||◌, true≢false}
use mathlib.Core.List.{List, [], ◌∷◌, map}
use Rattle.std.specs.List.{list_all, range_with_len}
use Rattle.std.specs.Prelude.{Option, Some, None, is_some}
use lib.Dec.{leb, ltb, eqb}
use lib.ListN.{length, get_or, drop, get_or-map}
use borrow.Author.Rules.{rules}
use borrow.Author.Tests.{ltb-true, leb-true, eqb-true, ne_eqb}
use Rattle.ground.specs.Choice.{one_of, pick, all}
use Rattle.ground.proofs.Bools.{both, split}
use Rattle.wire.specs.Number.{field}
use Rattle.wire.specs.Units.{msg_type}
use Rattle.wire.specs.Codes.{listed_code}
use Rattle.strips.specs.Forms.{Field, Form, form, forms, form_of, is_strip, strip_sized, fields_of, sorts, value_of, brings, listed_as, listed_field, listed_strip}
use Rattle.strips.specs.Words.{value_count}
use Rattle.strips.specs.Code.Shapes.{no_field, shape_in, shape_of, shape_if, source_in, field_of, fields_from, width_of, lies, Inside, Spans, Sized}
use Rattle.strips.specs.declared.Sort.{Sort}
use Rattle.strips.specs.declared.Sort.TheVariants.{Price, Imbalance}
use Rattle.strips.specs.declared.Shape.{Shape}
use Rattle.strips.specs.declared.Source.{Source}

-- what is the same of all that a list holds, and of the other, is the same of what is picked
pick_same : {A B : Type 0} (f g : A → B) (t : ℕ) (ps : List (ℕ × A)) (other : A) → map (λ (p : ℕ × A). f p.1) ps ≡ map (λ (p : ℕ × A). g p.1) ps → f other ≡ g other
    → f (pick t ps other) ≡ g (pick t ps other)
unfolding pick
pick_same f g t [] other h e = e
pick_same {A} {B} f g t (p ∷ ps) other h e =
    split (λ (x : A). f x ≡ g x) (eqb t p.0) p.1 (pick t ps other)
    (λ y. ap (λ (l : List B). get_or l 0 (f other)) h)
    (λ n. pick_same f g t ps other (ap (λ (l : List B). drop 1 l) h) e)

-- a test that all pass that a list holds, and the other does not, says of what is picked whether its number is in the list
pick_listed : {A : Type 0} (g : A → Bool) (t : ℕ) (ps : List (ℕ × A)) (other : A) → all (λ (p : ℕ × A). g p.1) ps ≡ true → g other ≡ false
    → g (pick t ps other) ≡ one_of t (map (λ (p : ℕ × A). p.0) ps)
unfolding pick one_of all
pick_listed g t [] other h n = n
pick_listed {A} g t (p ∷ ps) other h n =
    let u = both (g p.1) (all (λ (p : ℕ × A). g p.1) ps) h in
    go (eqb t p.0) u.0 (pick_listed g t ps other u.1 n)
  where
    go : (b : Bool) → g p.1 ≡ true → g (pick t ps other) ≡ one_of t (map (λ (p : ℕ × A). p.0) ps)
        → g (cond b p.1 (pick t ps other)) ≡ (b || one_of t (map (λ (p : ℕ × A). p.0) ps))
    go true y e = y
    go false y e = e

-- what the laws ask of a form: no more values than a strip has, and each field inside the message, as wide as its kind
abbrev lawful_form : Form → Bool
lawful_form f = leb ((shape_in f).first + (shape_in f).count) value_count && all (lies f.size) f.fields

-- THE LIST, decided by computing: its forms are lawful,
lawful_parts : (t : ℕ) → (leb ((shape_of t).first + (shape_of t).count) value_count ≡ true) × (all (lies (form_of t).size) (form_of t).fields ≡ true)
unfolding shape_of form_of all width_of
lawful_parts t =
    both (leb ((shape_of t).first + (shape_of t).count) value_count) (all (lies (form_of t).size) (form_of t).fields)
    (pick_same lawful_form (λ (f : Form). true) t forms (form 0 []) refl refl)

pub few_values : (t : ℕ) → (shape_of t).first + (shape_of t).count ≤ value_count
few_values t = leb-true ((shape_of t).first + (shape_of t).count) value_count (lawful_parts t).0

-- their fields are those of the values from the first on,
pub same_fields : (t : ℕ) → fields_from (shape_of t).first (shape_of t).count ≡ (form_of t).fields
unfolding shape_of form_of fields_from field_of fields_of
same_fields t =
    pick_same (λ (f : Form). fields_from (shape_in f).first (shape_in f).count) (λ (f : Form). f.fields) t forms (form 0 []) refl refl

-- each has some,
some_values : (t : ℕ) → ltb 0 (shape_of t).count ≡ is_strip t
unfolding shape_of form_of is_strip all
some_values t = pick_listed (λ (f : Form). ltb 0 (shape_in f).count) t forms (form 0 []) refl refl

-- and the values are numbered in its order
abbrev counted : ℕ → List Field → Bool
counted i [] = true
counted i (f ∷ fs) = eqb f.number i && counted (suc i) fs

counted_at : (i : ℕ) (fs : List Field) → counted i fs ≡ true → (j : ℕ) → j < length fs → (get_or fs j no_field).number ≡ i + j
counted_at i [] c j h = absurd (omega (arith, h))
counted_at i (f ∷ fs) c zero h = eqb-true f.number i (both (eqb f.number i) (counted (suc i) fs) c).0 ∙ omega arith
counted_at i (f ∷ fs) c (suc j) h = counted_at (suc i) fs (both (eqb f.number i) (counted (suc i) fs) c).1 j (omega (arith, h)) ∙ omega arith

pub number_is : (k : ℕ) → k < value_count → (field_of k).number ≡ k
unfolding field_of fields_of
number_is k h = counted_at 0 (fields_of forms) refl k h ∙ omega arith

-- so the kinds of a strip's values are those of its fields
pub sort_is : (k : ℕ) → get_or sorts k Price ≡ (field_of k).sort
unfolding field_of
sort_is k = get_or-map (λ (f : Field). f.sort) (fields_of forms) k no_field

-- where the list does not have a number, the other is picked
pick_other : {A : Type 0} (t : ℕ) (ps : List (ℕ × A)) (other : A) → one_of t (map (λ (p : ℕ × A). p.0) ps) ≡ false → pick t ps other ≡ other
unfolding pick one_of
pick_other t [] other n = refl
pick_other {A} t (p ∷ ps) other n = go (eqb t p.0) (pick_other t ps other) n
  where
    go : (b : Bool) → (one_of t (map (λ (q : ℕ × A). q.0) ps) ≡ false → pick t ps other ≡ other)
        → (b || one_of t (map (λ (q : ℕ × A). q.0) ps)) ≡ false → cond b p.1 (pick t ps other) ≡ other
    go true r e = absurd (true≢false e)
    go false r e = r e

-- a shape that is found is its type's; and where none is, the type is none of the strip's
pub record Found (t : ℕ) (r : Shape) : Type 0 where
  pub strip : is_strip t ≡ true
  pub same : r ≡ shape_of t

pub found : (t : ℕ) (o : Option Shape) (r : Shape) → o ≡ shape_if t → o ≡ Some r → Found t r
found t o r = go (is_strip t) refl
  where
    go : (b : Bool) → is_strip t ≡ b → o ≡ cond b (Some (shape_of t)) None → o ≡ Some r → Found t r
    go true y h e = record { strip = y; same = (cc) }
    go false y h e = absurd (cc)

pub not_found : (t : ℕ) → None ≡ shape_if t → is_strip t ≡ false
not_found t = go (is_strip t) refl
  where
    go : (b : Bool) → is_strip t ≡ b → None ≡ cond b (Some (shape_of t)) None → is_strip t ≡ false
    go true y e = absurd (cc)
    go false y e = y

-- a span: its first field lies inside the message, and so do those behind it
pub from_more : (k left : ℕ) → 0 < left → fields_from k left ≡ field_of k ∷ fields_from (k + 1) (left - 1)
unfolding fields_from
from_more k zero h = absurd (omega (arith, h))
from_more k (suc n) h =
    let e : suc n - 1 ≡ n = omega arith in
    rw e

module _ (m : List ℕ) where
  lies_inside : (f : Field) → lies (length m) f ≡ true → Inside m f
  lies_inside f h =
      let t = both (eqb f.width (width_of f.sort) && leb (f.at + f.width) (length m)) (leb 12 (length m)) h in
      let u = both (eqb f.width (width_of f.sort)) (leb (f.at + f.width) (length m)) t.0 in
      record { wide = eqb-true f.width (width_of f.sort) u.0; there = leb-true (f.at + f.width) (length m) u.1; head = leb-true 12 (length m) t.1 }

  module _ (k left : ℕ) (p : Spans m k left) (h : 0 < left) where
    parts : (lies (length m) (field_of k) ≡ true) × (all (lies (length m)) (fields_from (k + 1) (left - 1)) ≡ true)
    unfolding all
    parts = both (lies (length m) (field_of k)) (all (lies (length m)) (fields_from (k + 1) (left - 1))) (rw (from_more k left h) at p.inside)

    pub span_first : Inside m (field_of k)
    span_first = lies_inside (field_of k) parts.0

    pub span_rest : Spans m (k + 1) (left - 1)
    span_rest = record { few = omega (arith, p.few, h); inside = parts.1 }

  -- and so is that of any value of the span
  span_at : (first count k : ℕ) → Spans m first count → first ≤ k → k < first + count → (k < value_count) × Inside m (field_of k)
  span_at first zero k p l h = absurd (omega (arith, l, h))
  span_at first (suc n) k p l h =
      let more : 0 < suc n = omega arith in
      let e : suc n - 1 ≡ n = omega arith in
      let rest : Spans m (first + 1) n = rw e at (span_rest first (suc n) p more) in
      go (span_first first (suc n) p more) (λ (a : first + 1 ≤ k). span_at (first + 1) n k rest a (omega (arith, h))) (ℕ_discrete first k)
    where
      go : Inside m (field_of first) → (first + 1 ≤ k → (k < value_count) × Inside m (field_of k)) → Dec (first ≡ k) → (k < value_count) × Inside m (field_of k)
      go i r (yes e) = (omega (arith, p.few, h), subst (λ (j : ℕ). Inside m (field_of j)) e i)
      go i r (no e) = r (omega (arith, l, e))

  pub span_few : (first count k : ℕ) → Spans m first count → first ≤ k → k < first + count → k < value_count
  span_few first count k p l h = (span_at first count k p l h).0

  pub span_inside : (first count k : ℕ) → Spans m first count → first ≤ k → k < first + count → Inside m (field_of k)
  span_inside first count k p l h = (span_at first count k p l h).1

  -- a message of its form's size has its span
  type_spans : (t : ℕ) → length m ≡ (form_of t).size → Spans m (shape_of t).first (shape_of t).count
  type_spans t e = record { few = few_values t; inside = rw (same_fields t, e) (lawful_parts t).1 }

  sized_is : Sized m → length m ≡ (form_of (msg_type m)).size
  unfolding strip_sized
  sized_is z = eqb-true (length m) (form_of (msg_type m)).size z.right

  pub sized_spans : (o : Option Shape) (r : Shape) → Sized m → o ≡ shape_if (msg_type m) → o ≡ Some r → Spans m r.first r.count
  sized_spans o r z h e = rw (found (msg_type m) o r h e).same (type_spans (msg_type m) (sized_is z))

  -- so its code is there
  pub sized_code : Sized m → 8 ≤ length m
  sized_code z =
      let t = msg_type m in
      let i : Inside m (field_of (shape_of t).first) =
      span_first (shape_of t).first (shape_of t).count (type_spans t (sized_is z)) (ltb-true 0 (shape_of t).count (some_values t ∙ z.listed)) in
      omega (arith, i.head)

-- no shape: the type is none of those listed
abbrev pub Differs : ℕ → List ℕ → Type 0
Differs t [] = Unit
Differs t (n ∷ ns) = (t ≡ n → ⊥) × Differs t ns

none_of : (t : ℕ) (ns : List ℕ) → Differs t ns → one_of t ns ≡ false
unfolding one_of
none_of t [] d = refl
none_of t (n ∷ ns) d = rw (ne_eqb t n d.0) (none_of t ns d.1)

pub shape_none : (t : ℕ) → Differs t (map (λ (p : ℕ × Form). p.0) forms) → None ≡ shape_if t
unfolding is_strip
shape_none t d = rw (none_of t (map (λ (p : ℕ × Form). p.0) forms) d)

pub shape_strip : (t : ℕ) (r : Option Shape) → r ≡ shape_if t → is_some r ≡ is_strip t
shape_strip t r h = ap is_some h ∙ split (λ (x : Option Shape). is_some x ≡ is_strip t) (is_strip t) (Some (shape_of t)) None (λ y. sym y) (λ n. sym n)

-- the size of a message of a shape, and of one of none
pub size_told : (m : List ℕ) (r : Shape) → Some r ≡ shape_if (msg_type m) → eqb (length m) r.size ≡ strip_sized m
unfolding strip_sized shape_of
size_told m r e = rw (found (msg_type m) (Some r) r e refl).same

pub size_none : (m : List ℕ) → None ≡ shape_if (msg_type m) → eqb (length m) 0 ≡ strip_sized m
unfolding strip_sized form_of is_strip
size_none m e = rw (pick_other (msg_type m) forms (form 0 []) (not_found (msg_type m) e))

-- what a field brings, by its kind
module _ (m : List ℕ) (at d : ℕ) (e : d ≡ field 8 1 m) where
  pub no_quantity : d ≡ 32 → 0 ≡ value_of Imbalance m (field at 8 m)
  unfolding value_of
  no_quantity s = rw (← e, s)

  pub a_quantity : (r : ℕ) → (d ≡ 32 → ⊥) → r ≡ field at 8 m → r ≡ value_of Imbalance m (field at 8 m)
  unfolding value_of
  a_quantity r s h = rw (← e, ne_eqb d 32 s) h

module _ (m : List ℕ) (k : ℕ) (r : Source) (e : r ≡ source_in (field_of k)) (i : Inside m (field_of k)) (q : Sort) (s : r.sort ≡ q) where
  at_is : r.at ≡ (field_of k).at
  at_is = ap (λ (x : Source). x.at) e

  sort_of_it : q ≡ (field_of k).sort
  sort_of_it = sym s ∙ ap (λ (x : Source). x.sort) e

  width_is : width_of q ≡ (field_of k).width
  width_is = ap width_of sort_of_it ∙ sym i.wide

  pub sort_there : (n : ℕ) → width_of q ≡ n → r.at + n ≤ length m
  sort_there n w = rw (← w, width_is, at_is) i.there

  pub sort_brought : (v : ℕ) → v ≡ value_of q m (field r.at (width_of q) m) → v ≡ brings m (field_of k)
  sort_brought v h = h ∙ (λ j. value_of (sort_of_it j) m (field (at_is j) (width_is j) m))

  -- and whether it is listed
  pub sort_judged : (b : Bool) → b ≡ listed_as q (field r.at (width_of q) m) → b ≡ listed_field m (field_of k)
  sort_judged b h = h ∙ (λ j. listed_as (sort_of_it j) (field (at_is j) (width_is j) m))

-- all fields of a span are listed where the fields of its values are, one by one
pub span_listed : (m : List ℕ) (first count : ℕ) → list_all (λ (k : ℕ). listed_field m (field_of k)) (range_with_len first count) ≡ all (listed_field m) (fields_from first count)
unfolding all fields_from
span_listed m first zero = refl
span_listed m first (suc n) = ap (λ (b : Bool). listed_field m (field_of first) && b) (span_listed m (first + 1) n)

-- a message is listed where its code is and all its fields are
module _ (m : List ℕ) (c : ℕ) (a : Bool) (ec : c ≡ field 4 4 m) (ea : a ≡ listed_code c) where
  listed_code_lem : listed_code (field 4 4 m) ≡ a
  listed_code_lem = ap listed_code (sym ec) ∙ sym ea

  pub code_unlisted : a ≡ false → a ≡ listed_strip m
  unfolding listed_strip
  code_unlisted n = n ∙ rw (listed_code_lem ∙ n)

  pub code_listed : (o : Option Shape) (r : Shape) (b : Bool) → a ≡ true → o ≡ shape_if (msg_type m) → o ≡ Some r → b ≡ all (listed_field m) (fields_from r.first r.count)
      → b ≡ listed_strip m
  unfolding listed_strip
  code_listed o r b y h e eb =
      eb ∙ rw (listed_code_lem ∙ y) (rw (found (msg_type m) o r h e).same (ap (all (listed_field m)) (same_fields (msg_type m))))

pub ruleset sizes = (size_told, size_none)

pub ruleset quantities = (no_quantity, a_quantity)

pub ruleset sorts_told = (sort_there, sort_brought, sort_judged)

pub ruleset listing = (sized_code, code_unlisted)

pub ruleset spans = (rules, sized_spans)
