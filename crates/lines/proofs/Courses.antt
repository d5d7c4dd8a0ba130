-- A scrap goes unit by unit. Assumes nothing.
use Prim.Native.Nat.{ℕ, suc, ◌+◌, ◌-◌, ◌≤◌, ◌<◌, ◌^◌, min}
use native.Mathlib.Omega.{arith}
use native.Mathlib.Nat.{le_refl}
use mathlib.Core.Path.{◌≡◌, refl, sym, ap, subst, ◌∙◌}
use mathlib.Core.Bool.{Bool, true, false, cond}
use mathlib.Core.List.{List}
use lib.ListN.{length, take, drop, length-drop, length-append, length-take}
use lib.Seq.{take_all}
use mir.Syntax.{w64}
use mir.Val.{Fits}
use borrow.Author.Rules.{rules}
use Rattle.ground.proofs.Bools.{split}
use Rattle.feed.specs.Events.{Tables, State, Arrive}
use Rattle.feed.specs.Steps.{accepted, state_of, outcome}
use Rattle.feed.specs.declared.Given.{Given}
use Rattle.feed.proofs.Following.{overrun_not}
use Rattle.feed.proofs.Laws.{used_fits, drops_fit}
use Rattle.lines.specs.Looks.{look}
use Rattle.lines.specs.Scraps.{Heard, heard_of, Holding, Hearing, hearing, behind, silent, gathered, settled, looked, once, onward, goes_on, through}
use Rattle.lines.specs.declared.Look.{Look}
use Rattle.lines.specs.declared.Look.TheVariants.{Waits, TooLong, Finished}
use Rattle.lines.specs.declared.Line.{Line}
use Rattle.lines.specs.declared.Heard.{Heard as Told}
use Rattle.lines.proofs.Fronts.{look_finished}

-- one unit at most: the bytes that it uses are within the scrap, it is counted where it is accepted, and the rows that it drops and the bytes that wait
-- after it are no more than those that waited and those used
pub record Orderly (l : Line) (h s : List ℕ) (r : Heard) : Type 0 where
  pub inside : r.used ≤ length s
  pub counted : r.accepted ≡ cond (goes_on r) 1 0
  pub few : r.dropped + min r.line.held (length h) ≤ min l.held (length h) + r.used

module _ (l : Line) (x : Tables) (h s : List ℕ) (time : ℕ) where
  unit_orderly : (n : ℕ) (g : Given) → l.held ≤ length h → n ≤ length (behind l.held h s) → g.dropped ≤ n
      → Orderly l h s (settled g n l.held (length s) (gathered n l.held h s)).heard
  unfolding settled goes_on
  unit_orderly n g a k d =
      let e : length (behind l.held h s) ≤ l.held + length s = rw (length-append (take l.held h) s, length-take l.held h) (omega arith) in
      split (λ (k : Holding). Orderly l h s k.heard) (accepted g.answer) _ _
      (λ f. record { inside = omega (arith, e, k); counted = rw f; few = omega (arith, a, d) })
      (λ f. record { inside = le_refl (length s); counted = rw f; few = omega arith })

  looked_orderly : (v : Look) → look (length h) l.held (behind l.held h s) ≡ v → Orderly l h s (looked v l x h s time).heard
  unfolding looked goes_on
  looked_orderly Waits e = record { inside = le_refl (length s); counted = refl; few = omega arith }
  looked_orderly TooLong e = record { inside = le_refl (length s); counted = rw (overrun_not (state_of l.feed x) time); few = omega arith }
  looked_orderly (Finished n) e =
      let f = look_finished (length h) l.held (behind l.held h s) n e in
      let y : State = state_of l.feed x in
      let m : List ℕ = take n (behind l.held h s) in
      unit_orderly n (outcome y (Arrive m time)).given f.0 f.2
      (omega (arith, drops_fit y m time, used_fits y m time, length-take n (behind l.held h s)))

  pub once_orderly : Orderly l h s (once l x h s time).heard
  unfolding once goes_on
  once_orderly =
      split (λ (y : Hearing). Orderly l h s y.heard) l.dropping _ _
      (λ e. record { inside = le_refl (length s); counted = refl; few = omega arith })
      (λ e. looked_orderly (look (length h) l.held (behind l.held h s)) refl)

-- once more where the scrap stands
module _ (s : List ℕ) (n : ℕ) (y : Hearing) where
  abbrev next : Hearing
  next = once y.heard.line y.tables y.hold (drop y.heard.used s) n

  orderly : Orderly y.heard.line y.hold (drop y.heard.used s) next.heard
  orderly = once_orderly y.heard.line y.tables y.hold (drop y.heard.used s) n

  pub onward_fits : y.heard.used ≤ length s → (onward s n y).heard.used ≤ length s
  unfolding onward
  onward_fits h = omega (arith, orderly.inside, length-drop y.heard.used s)

  pub onward_few : y.heard.dropped + min y.heard.line.held (length y.hold) ≤ length y.hold + y.heard.used
      → (onward s n y).heard.dropped + min (onward s n y).heard.line.held (length y.hold) ≤ length y.hold + (onward s n y).heard.used
  unfolding onward
  onward_few h = omega (arith, orderly.few)

  goes_as : goes_on (onward s n y).heard ≡ goes_on next.heard
  unfolding onward goes_on
  goes_as = refl

  pub onward_counts : (onward s n y).heard.accepted ≡ y.heard.accepted + cond (goes_on (onward s n y).heard) 1 0
  unfolding onward
  onward_counts = rw goes_as (ap (λ (k : ℕ). y.heard.accepted + k) orderly.counted)

  -- a unit more, or the end
  pub through_on : (k : ℕ) → goes_on (onward s n y).heard ≡ true → through (suc k) s n y ≡ through k s n (onward s n y)
  unfolding through
  through_on k h = rw h

  pub through_ends : (k : ℕ) → goes_on (onward s n y).heard ≡ false → through (suc k) s n y ≡ onward s n y
  unfolding through
  through_ends k h = rw h

-- what one call at the rest of the scrap hands back is where the scrap then stands
module _ (x : Told) (t u : Tables) (h h' s : List ℕ) (n : ℕ) (one : Told)
    (e : hearing (heard_of one) u h' ≡ once x.line t h (take (length s - x.used) (drop x.used s)) n) where
  same : hearing (heard_of one) u h' ≡ once x.line t h (drop x.used s) n
  same = rw (take_all (length s - x.used) (drop x.used s) (rw (length-drop x.used s) (omega arith))) at e

  pub used_adds : x.used ≤ length s → length s < 2 ^ 64 → Fits w64 (x.used + one.used)
  used_adds k l =
      let p : one.used ≡ (once x.line t h (drop x.used s) n).heard.used = ap (λ (o : Hearing). o.heard.used) same in
      let q = (once_orderly x.line t h (drop x.used s) n).inside in
      record { fits = omega (arith, p, q, length-drop x.used s) }

  pub accepted_adds : x.accepted < 18446744073709551615 → Fits w64 (x.accepted + one.accepted)
  accepted_adds k =
      let p : one.accepted ≡ (once x.line t h (drop x.used s) n).heard.accepted = ap (λ (o : Hearing). o.heard.accepted) same in
      let q = (once_orderly x.line t h (drop x.used s) n).counted in
      record { fits = at_most (goes_on (once x.line t h (drop x.used s) n).heard) (p ∙ q) }
    where
      at_most : (b : Bool) → one.accepted ≡ cond b 1 0 → x.accepted + one.accepted < 2 ^ 64
      at_most true r = omega (arith, r, k)
      at_most false r = omega (arith, r, k)

  pub dropped_adds : x.used ≤ length s → x.dropped + min x.line.held (length h) ≤ length h + x.used → length s < 2 ^ 63 → length h < 2 ^ 63 → Fits w64 (x.dropped + one.dropped)
  dropped_adds k f l m =
      let p : one.dropped ≡ (once x.line t h (drop x.used s) n).heard.dropped = ap (λ (o : Hearing). o.heard.dropped) same in
      let q = once_orderly x.line t h (drop x.used s) n in
      record { fits = omega (arith, p, q.few, q.inside, length-drop x.used s) }

-- what the loop keeps after i units: what is left to do from here ends where all of it ends
pub record Goes (all : ℕ) (y₀ : Hearing) (s : List ℕ) (n i : ℕ) (y : Hearing) : Type 0 where
  pub ends : through (all - i) s n y ≡ through all s n y₀
  pub inside : y.heard.used ≤ length s
  pub few : y.heard.dropped + min y.heard.line.held (length y.hold) ≤ length y.hold + y.heard.used
  pub counted : y.heard.accepted ≡ i
  pub bounded : all < 2 ^ 64

pub go_start : (l : Line) (x : Tables) (h s : List ℕ) (n all : ℕ) (r : Heard) → Fits w64 all → r ≡ silent 0 l
    → Goes all (hearing (silent 0 l) x h) s n 0 (hearing r x h)
go_start l x h s n all r f e =
    let z : all - 0 ≡ all = omega arith in
    rw e (record { ends = rw z; inside = omega arith; few = omega arith; counted = refl; bounded = f.fits })

module _ (all : ℕ) (y₀ : Hearing) (s : List ℕ) (n i : ℕ) (y : Hearing) (g : Goes all y₀ s n i y) where
  pub go_asks : i < all → (y.heard.used ≤ length s) × (y.heard.accepted < 18446744073709551615) × (y.heard.dropped + min y.heard.line.held (length y.hold) ≤ length y.hold + y.heard.used)
  go_asks l = (g.inside, omega (arith, g.bounded, g.counted), g.few)

  pub go_done : all ≤ i → y ≡ through all s n y₀
  unfolding through
  go_done l = let z : all - i ≡ 0 = omega arith in rw z at g.ends

  module _ (l : i < all) (v : Hearing) (e : v ≡ onward s n y) (b : Bool) (f : b ≡ goes_on v.heard) where
    left : through (suc (all - i - 1)) s n y ≡ through all s n y₀
    left = let z : all - i ≡ suc (all - i - 1) = omega arith in rw z at g.ends

    goes : (c : Bool) → b ≡ c → goes_on (onward s n y).heard ≡ c
    goes c q = sym (ap (λ (o : Hearing). goes_on o.heard) e) ∙ sym f ∙ q

    pub go_more : b ≡ true → length v.hold ≡ length y.hold → Goes all y₀ s n (i + 1) v
    go_more q m =
        let p : v.heard.accepted ≡ y.heard.accepted + 1 = ap (λ (o : Hearing). o.heard.accepted) e ∙ onward_counts s n y ∙ rw (goes true q) in
        let z : all - i - 1 ≡ all - (i + 1) = omega arith in
        let w : v.heard.used ≡ (onward s n y).heard.used = ap (λ (o : Hearing). o.heard.used) e in
        let Few : Heard → Type 0 = λ r. r.dropped + min r.line.held (length y.hold) ≤ length y.hold + r.used in
        record {
          ends = rw (← z, e) (sym (through_on s n y (all - i - 1) (goes true q)) ∙ left);
          inside = rw w (onward_fits s n y g.inside);
          few = rw m (subst Few (sym (ap (λ (o : Hearing). o.heard) e)) (onward_few s n y g.few));
          counted = omega (arith, p, g.counted);
          bounded = g.bounded;
        }

    pub go_stop : b ≡ false → v ≡ through all s n y₀
    go_stop q = e ∙ sym (through_ends s n y (all - i - 1) (goes false q)) ∙ left

pub ruleset courses = (rules, used_adds, accepted_adds, go_start, go_asks, go_done, go_more, go_stop)
