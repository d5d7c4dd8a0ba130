-- What has come, seen through a holding buffer: what each test of the code settles, and what stays when bytes follow. Assumes nothing.
use Prim.Native.Nat.{ℕ, ◌+◌, ◌≤◌, ◌<◌, max}
use native.Mathlib.Omega.{arith}
use mathlib.Core.Path.{◌≡◌, refl, sym, ap, ◌∙◌}
use mathlib.Core.Bool.{Bool, true, false, cond, not, ◌&&◌, ◌||◌, true≢false}
use mathlib.Core.List.{List, ◌++◌}
use lib.ListN.{length, take, drop, length-append, take-append-drop}
use lib.Seq.{length-take-le}
use lib.Dec.{ltb, leb, eqb}
use borrow.Author.Tests.{le-ltb, le-leb, ltb-true, ltb-false, leb-true}
use Rattle.wire.specs.Number.{field}
use Rattle.wire.specs.Units.{seq_num, internal_num, msg_size, unit_of}
use Rattle.wire.specs.declared.Unit.{Unit}
use Rattle.wire.specs.declared.Unit.TheVariants.{More, Heartbeat, Message}
use Rattle.ground.proofs.Bools.{both, join, no_second, split}
use Rattle.wire.proofs.Fields.{field_drop, field_append}
use Rattle.wire.proofs.Fronts.{unit_fits, heartbeat_fits, unit_stays}
use Rattle.lines.specs.Looks.{is_sized, full_length, exceeds, finished, look}
use Rattle.lines.specs.declared.Look.{Look}
use Rattle.lines.specs.declared.Look.TheVariants.{Waits, TooLong, Finished}

-- MsgSize, where it stands
pub size_says : (s : List ℕ) → msg_size (drop 20 s) ≡ field 20 2 s
size_says s = field_drop 0 2 20 s

-- what a unit that has come tells
abbrev Sized : List ℕ → ℕ → Type 0
Sized s n = (is_sized s ≡ true) × (20 + n ≡ full_length s) × (22 ≤ length s)

-- what the reader said is not something else
not_message : (q i n : ℕ) → More ≡ Message q i n → ⊥
not_message q i n e = let z : ◌≡◌ {A = ℕ} 0 1 = cc in omega arith

not_beat : (q i n : ℕ) → Heartbeat ≡ Message q i n → ⊥
not_beat q i n e = let z : ◌≡◌ {A = ℕ} 0 1 = cc in omega arith

beat_not_more : Heartbeat ≡ More → ⊥
beat_not_more e = let z : ◌≡◌ {A = ℕ} 0 1 = cc in omega arith

message_sized : (s : List ℕ) (q i n : ℕ) → unit_of s ≡ Message q i n → Sized s n
unfolding unit_of is_sized
message_sized s q i n =
    let P : Unit → Type 0 = λ u. u ≡ Message q i n → Sized s n in
    let m : P More = λ e. absurd (not_message q i n e) in
    split P (ltb (length s) 20) _ _ (λ t. m) λ t₁.
    split P (eqb (field 0 2 s) 20) _ _ (λ t e. absurd (not_beat q i n e)) λ t₂.
    split P (ltb (length s) 22) _ _ (λ t. m) λ t₃.
    split P (ltb (length s) (full_length s)) _ _ (λ t. m) λ t₄ e.
    let z : msg_size (drop 20 s) ≡ n = cc in
    (rw (le-leb 22 (length s) (ltb-false (length s) 22 t₃), t₂), rw z, ltb-false (length s) 22 t₃)

-- and what is wanted where more bytes are
data Wanting (s : List ℕ) : Type 0 where
  short : length s < 20 → Wanting s
  few : length s < 22 → eqb (field 0 2 s) 20 ≡ false → Wanting s
  torn : is_sized s ≡ true → length s < full_length s → Wanting s

more_wanting : (s : List ℕ) → unit_of s ≡ More → Wanting s
unfolding unit_of is_sized
more_wanting s =
    let P : Unit → Type 0 = λ u. u ≡ More → Wanting s in
    split P (ltb (length s) 20) _ _ (λ t e. short (ltb-true (length s) 20 t)) λ t₁.
    split P (eqb (field 0 2 s) 20) _ _ (λ t e. absurd (beat_not_more e)) λ t₂.
    split P (ltb (length s) 22) _ _ (λ t e. few (ltb-true (length s) 22 t) t₂) λ t₃.
    split P (ltb (length s) (full_length s)) _ _
    (λ t e. torn (rw (le-leb 22 (length s) (ltb-false (length s) 22 t₃), t₂)) (ltb-true (length s) (full_length s) t))
    (λ t e. absurd (not_message (seq_num s) (internal_num s) (msg_size (drop 20 s)) (sym e)))

-- where 22 is not due
record Spared (r w : ℕ) (s : List ℕ) (v : Look) : Type 0 where
  pub full : is_sized s ≡ true → full_length s ≤ r
  pub least : 22 ≤ r
  pub held : w ≤ r
  pub unit : finished (unit_of s) ≡ v

none_of : (a b c d : Bool) → ((a && b) || c || d) ≡ false → (a ≡ true → b ≡ false) × (c ≡ false) × (d ≡ false)
none_of true true c d h = absurd (true≢false h)
none_of true false true d h = absurd (true≢false h)
none_of true false false d h = (λ z. refl, refl, h)
none_of false b true d h = absurd (true≢false h)
none_of false b false d h = (λ z. absurd (true≢false (sym z)), refl, h)

spared : (r w : ℕ) (s : List ℕ) (v : Look) → look r w s ≡ v → (v ≡ TooLong → ⊥) → Spared r w s v
unfolding look
spared r w s v e k = go (exceeds r w s) refl e
  where
    go : (b : Bool) → exceeds r w s ≡ b → cond b TooLong (finished (unit_of s)) ≡ v → Spared r w s v
    go true h e = absurd (k (sym e))
    go false h e =
        let n = none_of (is_sized s) (ltb r (full_length s)) (ltb r 22) (ltb r w) (unfold exceeds in h) in
        record { full = λ z. ltb-false r (full_length s) (n.0 z); least = ltb-false r 22 n.1; held = ltb-false r w n.2; unit = e }

-- what only waits has room, and a finished unit has
module _ (r w : ℕ) (s : List ℕ) where
  pub look_waits : look r w s ≡ Waits → (w ≤ r) × (length s ≤ r)
  unfolding finished
  look_waits e =
      let p = spared r w s Waits e (λ z. let z : ◌≡◌ {A = ℕ} 0 1 = cc in omega arith) in
      (p.held, go p (unit_of s) refl p.unit)
    where
      has_room : Spared r w s Waits → Wanting s → length s ≤ r
      has_room p (short l) = omega (arith, p.least)
      has_room p (few l z) = omega (arith, p.least)
      has_room p (torn z l) = omega (arith, p.full z)

      go : Spared r w s Waits → (u : Unit) → unit_of s ≡ u → finished u ≡ Waits → length s ≤ r
      go p More h f = has_room p (more_wanting s h)
      go p Heartbeat h f = let z : ◌≡◌ {A = ℕ} 0 1 = cc in omega arith
      go p (Message q i n) h f = let z : ◌≡◌ {A = ℕ} 0 1 = cc in omega arith

  pub look_finished : (n : ℕ) → look r w s ≡ Finished n → (w ≤ r) × (n ≤ r) × (n ≤ length s) × (20 ≤ n)
  unfolding finished
  look_finished n e = let p = spared r w s (Finished n) e (λ z. let z : ◌≡◌ {A = ℕ} 0 1 = cc in omega arith) in go p (unit_of s) refl p.unit
    where
      go : Spared r w s (Finished n) → (u : Unit) → unit_of s ≡ u → finished u ≡ Finished n → (w ≤ r) × (n ≤ r) × (n ≤ length s) × (20 ≤ n)
      go p More h f = let z : ◌≡◌ {A = ℕ} 0 1 = cc in absurd (let y : ⊥ = omega arith in y)
      go p Heartbeat h f =
          let z : 20 ≡ n = cc in
          let l = heartbeat_fits s h in
          (p.held, omega (arith, p.least), omega arith, omega arith)
      go p (Message q i k) h f =
          let z : 20 + max 2 k ≡ n = cc in
          let l = unit_fits s q i k h in
          let m = message_sized s q i k h in
          (p.held, omega (arith, p.full m.0, m.1, p.least), omega (arith, m.2), omega arith)

-- the bytes of a finished unit are a whole unit by themselves
heartbeat_says : (s : List ℕ) → unit_of s ≡ Heartbeat → eqb (field 0 2 s) 20 ≡ true
unfolding unit_of
heartbeat_says s =
    let P : Unit → Type 0 = λ u. u ≡ Heartbeat → eqb (field 0 2 s) 20 ≡ true in
    let m : P More = λ e. absurd (beat_not_more (sym e)) in
    split P (ltb (length s) 20) _ _ (λ t. m) λ t₁.
    split P (eqb (field 0 2 s) 20) _ _ (λ t e. t) λ t₂.
    split P (ltb (length s) 22) _ _ (λ t. m) λ t₃.
    split P (ltb (length s) (full_length s)) _ _ (λ t. m) λ t₄ e. absurd (not_beat (seq_num s) (internal_num s) (msg_size (drop 20 s)) (sym e))

sized_long : (s : List ℕ) → is_sized s ≡ true → 22 ≤ length s
unfolding is_sized
sized_long s e = leb-true 22 (length s) (both (leb 22 (length s)) (not (eqb (field 0 2 s) 20)) e).0

field_taken : (at k n : ℕ) (s : List ℕ) → n ≤ length s → at + k ≤ n → field at k (take n s) ≡ field at k s
field_taken at k n s h l =
    sym (field_append at k (take n s) (drop n s) (rw (length-take-le n s h) l)) ∙ ap (field at k) (take-append-drop n s)

module _ (n : ℕ) (s : List ℕ) (h : n ≤ length s) where
  at_n : length (take n s) ≡ n
  at_n = length-take-le n s h

  full_taken : 22 ≤ n → full_length (take n s) ≡ full_length s
  full_taken l = rw (field_drop 0 2 20 (take n s), field_drop 0 2 20 s, field_taken 20 2 n s h l)

  whole_by : (u : Unit) → unit_of s ≡ u → finished u ≡ Finished n → Wanting (take n s) → ⊥
  unfolding finished
  whole_by More e f w = let z : ◌≡◌ {A = ℕ} 0 1 = cc in omega arith
  whole_by Heartbeat e f (short l) = let z : 20 ≡ n = cc in omega (arith, at_n)
  whole_by Heartbeat e f (few l z) =
      let k : 20 ≡ n = cc in
      true≢false (sym (heartbeat_says s e) ∙ sym (ap (λ (i : ℕ). eqb i 20) (field_taken 0 2 n s h (omega arith))) ∙ z)
  whole_by Heartbeat e f (torn z l) = let k : 20 ≡ n = cc in omega (arith, at_n, sized_long (take n s) z)
  whole_by (Message q i k) e f (short l) = let z : 20 + max 2 k ≡ n = cc in omega (arith, at_n)
  whole_by (Message q i k) e f (few l y) = let z : 20 + max 2 k ≡ n = cc in omega (arith, at_n)
  whole_by (Message q i k) e f (torn y l) =
      let z : 20 + max 2 k ≡ n = cc in
      let m = message_sized s q i k e in
      omega (arith, at_n, full_taken (omega arith), m.1)

pub unit_whole : (r w n : ℕ) (s : List ℕ) → look r w s ≡ Finished n → unit_of (take n s) ≡ More → ⊥
unit_whole r w n s e m =
    let p = spared r w s (Finished n) e (λ z. let z : ◌≡◌ {A = ℕ} 0 1 = cc in omega arith) in
    whole_by n s (look_finished r w s n e).2 (unit_of s) refl p.unit (more_wanting (take n s) m)

one_more : (p q d u v : Bool) → (p ≡ true → q ≡ true → d ≡ true) → ((p && q) || u || v) ≡ true → (d || u || v) ≡ true
one_more p q true u v f e = refl
one_more true true false u v f e = absurd (true≢false (sym (f refl refl)))
one_more true false false u v f e = e
one_more false q false u v f e = e

never_long : (u : Unit) → finished u ≡ TooLong → ⊥
unfolding finished
never_long More e = let z : ◌≡◌ {A = ℕ} 0 1 = cc in omega arith
never_long Heartbeat e = let z : ◌≡◌ {A = ℕ} 0 1 = cc in omega arith
never_long (Message q i n) e = let z : ◌≡◌ {A = ℕ} 0 1 = cc in omega arith

module _ (r w : ℕ) (a b : List ℕ) where
  longer : length a ≤ length (a ++ b)
  longer = simp length-append (omega arith)

  sized_stays : is_sized a ≡ true → (is_sized (a ++ b) ≡ true) × (full_length (a ++ b) ≡ full_length a)
  unfolding is_sized
  sized_stays e =
      let l = sized_long a (unfold is_sized in e) in
      let m = (both (leb 22 (length a)) (not (eqb (field 0 2 a) 20)) e).1 in
      let f : field 0 2 (a ++ b) ≡ field 0 2 a = field_append 0 2 a b (omega arith) in
      let g : field 20 2 (a ++ b) ≡ field 20 2 a = field_append 20 2 a b l in
      (rw (le-leb 22 (length (a ++ b)) (let z = longer in omega arith), f) m, rw (field_drop 0 2 20 (a ++ b), g, field_drop 0 2 20 a))

  exceeds_stays : exceeds r w a ≡ true → exceeds r w (a ++ b) ≡ true
  unfolding exceeds
  exceeds_stays e =
      one_more (is_sized a) (ltb r (full_length a)) (is_sized (a ++ b) && ltb r (full_length (a ++ b))) (ltb r 22) (ltb r w)
      (λ p q. join (is_sized (a ++ b)) (ltb r (full_length (a ++ b))) (sized_stays p).0 (rw (sized_stays p).1 q)) e

  long_stays : look r w a ≡ TooLong → look r w (a ++ b) ≡ TooLong
  unfolding look
  long_stays e = go (exceeds r w a) refl e
    where
      go : (c : Bool) → exceeds r w a ≡ c → cond c TooLong (finished (unit_of a)) ≡ TooLong → cond (exceeds r w (a ++ b)) TooLong (finished (unit_of (a ++ b))) ≡ TooLong
      go true h e = rw (exceeds_stays h)
      go false h e = absurd (never_long (unit_of a) e)

  module _ (n : ℕ) (e : look r w a ≡ Finished n) where
    kept : Spared r w a (Finished n)
    kept = spared r w a (Finished n) e (λ z. let z : ◌≡◌ {A = ℕ} 0 1 = cc in omega arith)

    no_more : (u : Unit) → finished u ≡ Finished n → u ≡ More → ⊥
    unfolding finished
    no_more u f m = let z : Waits ≡ Finished n = rw m at f in let y : ◌≡◌ {A = ℕ} 0 1 = cc in omega arith

    beat_unsized : unit_of a ≡ Heartbeat → is_sized (a ++ b) ≡ false
    unfolding is_sized
    beat_unsized h =
        let l = heartbeat_fits a h in
        let q : field 0 2 (a ++ b) ≡ field 0 2 a = field_append 0 2 a b (omega arith) in
        no_second (leb 22 (length (a ++ b))) (not (eqb (field 0 2 (a ++ b)) 20)) (rw (q, heartbeat_says a h))

    within : (u : Unit) → unit_of a ≡ u → finished u ≡ Finished n → (is_sized (a ++ b) && ltb r (full_length (a ++ b))) ≡ false
    within More h f = absurd (no_more More f refl)
    within Heartbeat h f = ap (λ (c : Bool). c && ltb r (full_length (a ++ b))) (beat_unsized h)
    within (Message q i k) h f =
        let m = message_sized a q i k h in
        let z = sized_stays m.0 in
        no_second (is_sized (a ++ b)) (ltb r (full_length (a ++ b))) (rw z.1 (le-ltb r (full_length a) (kept.full m.0)))

    finished_stays : look r w (a ++ b) ≡ Finished n
    unfolding look exceeds
    finished_stays =
        rw (within (unit_of a) refl kept.unit, le-ltb r 22 kept.least, le-ltb r w kept.held, unit_stays a b (no_more (unit_of a) kept.unit)) kept.unit

-- what is asked for stays when bytes follow, unless it is to wait
pub look_stays : (r w : ℕ) (a b : List ℕ) (v : Look) → look r w a ≡ v → (v ≡ Waits → ⊥) → look r w (a ++ b) ≡ v
look_stays r w a b TooLong e k = long_stays r w a b e
look_stays r w a b Waits e k = absurd (k refl)
look_stays r w a b (Finished n) e k = finished_stays r w a b n e
