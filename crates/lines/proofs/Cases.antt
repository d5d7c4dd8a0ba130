-- What each place of the code asks, from what its tests and calls told. Assumes nothing.
use Prim.Native.Nat.{ℕ, ◌+◌, ◌≤◌}
use mathlib.Core.Path.{◌≡◌, refl, sym, ap, ◌∙◌}
use mathlib.Core.Bool.{Bool, true, false, cond}
use mathlib.Core.List.{List}
use lib.ListN.{length, take}
use lib.Dec.{ltb}
use borrow.Author.Rules.{rules}
use Rattle.std.specs.Prelude.{Option, None, Some, is_some, unwrap_or}
use Rattle.feed.specs.Events.{Tables, Arrive}
use Rattle.feed.specs.Steps.{state_of, out_of, outcome}
use Rattle.feed.specs.declared.Given.{Given}
use Rattle.lines.specs.Looks.{look}
use Rattle.lines.specs.Scraps.{Heard, heard_of, holding, hearing, behind, gathered, settled, looked}
use Rattle.lines.specs.declared.Look.{Look}
use Rattle.lines.specs.declared.Look.TheVariants.{Waits, Finished}
use Rattle.lines.specs.declared.Line.{Line}
use Rattle.lines.specs.declared.Heard.{Heard as Told}
use Rattle.lines.proofs.Copies.{behind_length, gathered_front}
use Rattle.lines.proofs.Fronts.{look_waits, look_finished}

-- a choice by a test that is known: the record that the test is a field of stays as it is
pub cond_yes : {A : Type 0} (b : Bool) (x y : A) → b ≡ true → cond b x y ≡ x
cond_yes b x y e = rw e

pub cond_no : {A : Type 0} (b : Bool) (x y : A) → b ≡ false → cond b x y ≡ y
cond_no b x y e = rw e

-- two that are seen as one are one
answer_kept : (o : Option ℕ) → cond (is_some o) (Some (unwrap_or o 0)) None ≡ o
answer_kept None = refl
answer_kept (Some n) = refl

abbrev told : Heard → Told
told h = record { answer = cond h.said (Some h.answer) None; accepted = h.accepted; used = h.used; line = h.line; dropped = h.dropped }

told_kept : (r : Told) → told (heard_of r) ≡ r
told_kept r = λ i. record { answer = answer_kept r.answer i; accepted = r.accepted; used = r.used; line = r.line; dropped = r.dropped }

pub heard_one : (r r' : Told) → heard_of r ≡ heard_of r' → r ≡ r'
heard_one r r' e = sym (told_kept r) ∙ ap told e ∙ told_kept r'

module _ (l : Line) (t u : Tables) (h s : List ℕ) (n time : ℕ) (g : Given) (r : Heard) (h' : List ℕ) where
  pub finish_straight : (G : List ℕ) → l.held ≡ 0 → G ≡ h → out_of g u ≡ outcome (state_of l.feed t) (Arrive (take n s) time)
      → holding r h' ≡ settled g n l.held (length s) G → hearing r u h' ≡ looked (Finished n) l t h s time
  unfolding looked gathered
  finish_straight G z q e p =
      rw (ap (λ (k : ℕ). ltb 0 k) z, ap (λ (k : ℕ). take n (behind k h s)) z, ← e, ← q, ← p)

  pub finish_gathered : (G : List ℕ) → l.held ≤ length h → (l.held ≡ 0 → ⊥) → n ≤ l.held + length s → G ≡ gathered n l.held h s
      → out_of g u ≡ outcome (state_of l.feed t) (Arrive (take n G) time) → holding r h' ≡ settled g n l.held (length s) G
      → hearing r u h' ≡ looked (Finished n) l t h s time
  unfolding looked
  finish_gathered G a z k q e p = rw (← q, ← gathered_front l.held h s a n G z k q, ← e, ← p)

-- what the look tells has room
module _ (w : ℕ) (h s : List ℕ) (v : Look) (a : v ≡ look (length h) w (behind w h s)) where
  pub room_behind : v ≡ Waits → w + length s ≤ length h
  room_behind e =
      let p = look_waits (length h) w (behind w h s) (sym a ∙ e) in
      rw (← behind_length w h s p.0) p.1

  pub unit_room : (n : ℕ) → v ≡ Finished n → (w ≤ length h) × (n ≤ length h) × (n ≤ w + length s)
  unit_room n e =
      let f = look_finished (length h) w (behind w h s) n (sym a ∙ e) in
      (f.0, f.1, rw (← behind_length w h s f.0) f.2)

pub ruleset rooms = (rules, room_behind, unit_room)
