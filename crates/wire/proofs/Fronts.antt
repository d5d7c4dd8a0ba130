-- Laws of the unit at the front of a stream (specs/Units). Assumes nothing.
use Prim.Native.Nat.{ℕ, ◌+◌, ◌≤◌}
use native.Mathlib.Omega.{arith}
use mathlib.Core.Path.{◌≡◌, refl}
use mathlib.Core.Bool.{Bool, true, false, cond}
use mathlib.Core.List.{List, ◌++◌}
use lib.Dec.{ltb, eqb}
use lib.ListN.{length, drop, length-append, length-take, length-drop}
use borrow.Author.Tests.{ltb-false, le-ltb}
use Rattle.wire.specs.Units.{header_size, size_size, msg_length, msg_size, unit_of, message_in}
use Rattle.wire.specs.declared.Unit.{Unit}
use Rattle.wire.specs.declared.Unit.TheVariants.{More, Heartbeat, Message}
use Rattle.wire.proofs.Fields.{field_drop, field_append}

-- a property of what a test chooses, from both its ways
by_test : (P : Unit → Type 0) (b : Bool) (x y : Unit) → (b ≡ true → P x) → (b ≡ false → P y) → P (cond b x y)
by_test P true x y p q = p refl
by_test P false x y p q = q refl

-- a unit with a message lies within the stream, header and message
pub unit_fits : (s : List ℕ) (q i n : ℕ) → unit_of s ≡ Message q i n → header_size + n ≤ length s
unfolding unit_of
unit_fits s q i n =
    let P : Unit → Type 0 = λ u. u ≡ Message q i n → header_size + n ≤ length s in
    let m : P More = λ e. let z : ◌≡◌ {A = ℕ} 0 1 = cc in omega arith in
    let size = msg_size (drop header_size s) in
    by_test P (ltb (length s) header_size) _ _ (λ t. m) λ t.
    by_test P (eqb (msg_length s) header_size) _ _ (λ t e. let z : ◌≡◌ {A = ℕ} 0 1 = cc in omega arith) λ t.
    by_test P (ltb (length s) (header_size + size_size)) _ _ (λ t. m) λ t.
    by_test P (ltb (length s) (header_size + size)) _ _ (λ t. m) λ t e.
    let z : size ≡ n = cc in
    omega (arith, ltb-false (length s) (header_size + size) t)

-- the message of such a unit has the size that the unit says
pub message_length : (s : List ℕ) (q i n : ℕ) → unit_of s ≡ Message q i n → length (message_in s n) ≡ n
message_length s q i n e =
    let h = unit_fits s q i n e in
    simp (length-take, length-drop) (omega arith)

-- a heartbeat lies within the stream
pub heartbeat_fits : (s : List ℕ) → unit_of s ≡ Heartbeat → header_size ≤ length s
unfolding unit_of
heartbeat_fits s =
    let P : Unit → Type 0 = λ u. u ≡ Heartbeat → header_size ≤ length s in
    by_test P (ltb (length s) header_size) _ _ (λ t e. let z : ◌≡◌ {A = ℕ} 0 1 = cc in omega arith) λ t e. ltb-false (length s) header_size t

-- a stream stays long enough when bytes follow
longer : (a b : List ℕ) (k : ℕ) → k ≤ length a → ltb (length (a ++ b)) k ≡ false
longer a b k h = le-ltb (length (a ++ b)) k (simp length-append (omega arith))

-- what stands at the front stays when bytes follow
pub unit_stays : (a b : List ℕ) → (unit_of a ≡ More → ⊥) → unit_of (a ++ b) ≡ unit_of a
unfolding unit_of
unit_stays a b =
    let P : Unit → Type 0 = λ u. (u ≡ More → ⊥) → unit_of (a ++ b) ≡ u in
    let size = msg_size (drop header_size a) in
    by_test P (ltb (length a) header_size) _ _ (λ t h. absurd (h refl)) λ t₁.
    let l₁ = ltb-false (length a) header_size t₁ in
    let f₁ = longer a b header_size l₁ in
    let e₁ = field_append 0 2 a b (omega arith) in
    by_test P (eqb (msg_length a) header_size) _ _ (λ t h. rw (f₁, e₁, t)) λ t₂.
    by_test P (ltb (length a) (header_size + size_size)) _ _ (λ t h. absurd (h refl)) λ t₃.
    let l₃ = ltb-false (length a) (header_size + size_size) t₃ in
    let e₃ : msg_size (drop header_size (a ++ b)) ≡ size = simp (field_drop, field_append header_size 2 a b l₃) in
    by_test P (ltb (length a) (header_size + size)) _ _ (λ t h. absurd (h refl)) λ t₄.
    let f₄ = longer a b (header_size + size) (ltb-false (length a) (header_size + size) t₄) in
    let e₅ = field_append 4 4 a b (omega arith) in
    let e₆ = field_append 8 4 a b (omega arith) in
    λ h. rw (f₁, e₁, t₂, longer a b (header_size + size_size) l₃, e₃, f₄, e₅, e₆)
