-- A frame goes as single arrivals go. Assumes nothing.
use Prim.Native.Nat.{ℕ, zero, suc, ◌+◌, ◌-◌, ◌≤◌, ◌<◌, ◌^◌}
use mathlib.Core.Path.{◌≡◌, refl, sym, ap, ◌∙◌}
use mathlib.Core.Bool.{Bool, true, false, cond, true≢false}
use mathlib.Core.List.{List}
use native.Mathlib.Omega.{arith}
use native.Mathlib.Nat.{add_assoc}
use lib.ListN.{length, take, drop, length-drop}
use lib.Seq.{take_all, drop-drop}
use lib.Dec.{leb}
use mir.Syntax.{w64}
use mir.Val.{Fits, bool_byte}
use borrow.Author.Rules.{rules}
use borrow.Author.Tests.{le-leb, lt-leb}
use Rattle.ground.proofs.Bools.{split}
use Rattle.feed.specs.Events.{Tables, State, Arrive}
use Rattle.feed.specs.Steps.{Outcome, accepted, state_of, out_of, outcome}
use Rattle.feed.specs.Frames.{Framed, framed_of, opened, onward, through}
use Rattle.feed.specs.declared.Feed.{Feed}
use Rattle.feed.specs.declared.Given.{Given}
use Rattle.feed.specs.declared.Frame.{Frame}
use Rattle.feed.proofs.Laws.{used_fits, drops_fit}

-- one arrival: the bytes that it uses are within those there are, and it is counted where it is accepted
module _ (s : List ℕ) (n : ℕ) (x : Framed) where
  pub onward_fits : x.frame.used ≤ length s → (onward s n x).frame.used ≤ length s
  unfolding onward
  onward_fits h =
      let q = used_fits (state_of x.frame.feed x.tables) (drop x.frame.used s) n in
      omega (arith, q, length-drop x.frame.used s)

  -- and so are the rows that it drops
  pub onward_few : x.frame.dropped ≤ x.frame.used → (onward s n x).frame.dropped ≤ (onward s n x).frame.used
  unfolding onward
  onward_few h = omega (arith, drops_fit (state_of x.frame.feed x.tables) (drop x.frame.used s) n)

  pub onward_counts : accepted (onward s n x).frame.answer ≡ true → (onward s n x).frame.accepted ≡ x.frame.accepted + 1
  unfolding onward
  onward_counts h = rw h

  pub onward_ends : accepted (onward s n x).frame.answer ≡ false → (onward s n x).frame.accepted ≡ x.frame.accepted
  unfolding onward
  onward_ends h = rw h

  -- a unit more, or the end
  pub through_on : (k : ℕ) → accepted (onward s n x).frame.answer ≡ true → through (suc k) s n x ≡ through k s n (onward s n x)
  unfolding through
  through_on k h = rw h

  pub through_ends : (k : ℕ) → accepted (onward s n x).frame.answer ≡ false → through (suc k) s n x ≡ onward s n x
  unfolding through
  through_ends k h = rw h

-- what an arrival at the rest of the bytes hands back is where the frame then stands
module _ (x : Frame) (t u : Tables) (s : List ℕ) (n : ℕ) (g : Given)
    (e : out_of g u ≡ outcome (state_of x.feed t) (Arrive (take (length s - x.used) (drop x.used s)) n)) where
  same : out_of g u ≡ outcome (state_of x.feed t) (Arrive (drop x.used s) n)
  same = rw (take_all (length s - x.used) (drop x.used s) (rw (length-drop x.used s) (omega arith))) at e

  counts_as : (b : Bool) (a : ℕ) → a + bool_byte b ≡ cond b (a + 1) a
  counts_as true a = refl
  counts_as false a = omega arith

  pub stands : (i : ℕ) → i ≡ bool_byte (leb g.answer 2)
      → framed_of (record { answer = g.answer; accepted = x.accepted + i; used = x.used + g.used; feed = g.feed; dropped = x.dropped + g.dropped }) u ≡ onward s n (framed_of x t)
  unfolding onward
  stands i h = rw (← same, h, counts_as (leb g.answer 2) x.accepted)

  pub used_adds : x.used ≤ length s → length s < 2 ^ 64 → Fits w64 (x.used + g.used)
  used_adds h l =
      let p : g.used ≡ (outcome (state_of x.feed t) (Arrive (drop x.used s) n)).given.used = ap (λ (o : Outcome). o.given.used) same in
      let q = used_fits (state_of x.feed t) (drop x.used s) n in
      record { fits = omega (arith, p, q, length-drop x.used s) }

  pub dropped_adds : x.used ≤ length s → x.dropped ≤ x.used → length s < 2 ^ 64 → Fits w64 (x.dropped + g.dropped)
  dropped_adds h d l =
      let y : State = state_of x.feed t in
      let p : g.dropped ≡ (outcome y (Arrive (drop x.used s) n)).given.dropped = ap (λ (o : Outcome). o.given.dropped) same in
      record { fits = omega (arith, p, d, drops_fit y (drop x.used s) n, used_fits y (drop x.used s) n, length-drop x.used s) }

-- what the loop keeps after k units, each of them accepted: what is left to do from here ends where all of it ends
pub record Goes (all k : ℕ) (x₀ : Frame) (t₀ : Tables) (s : List ℕ) (n : ℕ) (x : Frame) (t : Tables) : Type 0 where
  pub ends : through (all - k) s n (framed_of x t) ≡ through all s n (framed_of x₀ t₀)
  pub inside : x.used ≤ length s
  pub few : x.dropped ≤ x.used
  pub count : x.accepted ≡ k

pub go_start : (f : Feed) (t : Tables) (s : List ℕ) (n all : ℕ) → Goes all 0 (opened f) t s n (opened f) t
go_start f t s n all =
    let z : all - 0 ≡ all = omega arith in
    record { ends = rw z; inside = omega arith; few = omega arith; count = refl }

module _ (all k : ℕ) (x₀ : Frame) (t₀ : Tables) (s : List ℕ) (n : ℕ) (x : Frame) (t : Tables) (g : Goes all k x₀ t₀ s n x t) where
  pub go_asks : k < all → Fits w64 all → (x.used ≤ length s) × (x.accepted < 18446744073709551615) × (x.dropped ≤ x.used)
  go_asks l h = (g.inside, omega (arith, g.count, h.fits), g.few)

  pub go_done : all ≤ k → framed_of x t ≡ through all s n (framed_of x₀ t₀)
  unfolding through
  go_done l = let z : all - k ≡ 0 = omega arith in rw z at g.ends

  module _ (l : k < all) (y : Frame) (u : Tables) (e : framed_of y u ≡ onward s n (framed_of x t)) where
    left : through (suc (all - k - 1)) s n (framed_of x t) ≡ through all s n (framed_of x₀ t₀)
    left = let z : all - k ≡ suc (all - k - 1) = omega arith in rw z at g.ends

    answered_as : y.answer ≡ (onward s n (framed_of x t)).frame.answer
    answered_as = ap (λ (o : Framed). o.frame.answer) e

    taken : y.answer ≤ 2 → accepted (onward s n (framed_of x t)).frame.answer ≡ true
    taken h = rw (← answered_as) (le-leb y.answer 2 h)

    pub go_more : y.answer ≤ 2 → Goes all (k + 1) x₀ t₀ s n y u
    go_more h =
        let p : y.accepted ≡ x.accepted + 1 = ap (λ (o : Framed). o.frame.accepted) e ∙ onward_counts s n (framed_of x t) (taken h) in
        let z : all - k - 1 ≡ all - (k + 1) = omega arith in
        let w : y.used ≡ (onward s n (framed_of x t)).frame.used = ap (λ (o : Framed). o.frame.used) e in
        let v : y.dropped ≡ (onward s n (framed_of x t)).frame.dropped = ap (λ (o : Framed). o.frame.dropped) e in
        record {
          ends = rw (← z, e) (sym (through_on s n (framed_of x t) (all - k - 1) (taken h)) ∙ left);
          inside = rw w (onward_fits s n (framed_of x t) g.inside);
          few = rw (w, v) (onward_few s n (framed_of x t) g.few);
          count = omega (arith, p, g.count);
        }

    pub go_stop : 2 < y.answer → framed_of y u ≡ through all s n (framed_of x₀ t₀)
    go_stop h =
        let q : accepted (onward s n (framed_of x t)).frame.answer ≡ false = rw (← answered_as) (lt-leb y.answer 2 h) in
        e ∙ sym (through_ends s n (framed_of x t) (all - k - 1) q) ∙ left

-- what came last was accepted, or not
abbrev pub Well : Framed → Type 0
Well x = accepted x.frame.answer ≡ true

abbrev pub Ill : Framed → Type 0
Ill x = accepted x.frame.answer ≡ false

module _ (s : List ℕ) (n : ℕ) where
  -- to show something of where a frame of k units from x ends: where none is left, a unit before its end, and at a unit that ends it
  pub walk : (P : ℕ → Framed → Framed → Type 0) → ((x : Framed) → P 0 x x)
      → ((k : ℕ) (x y : Framed) → Well (onward s n x) → P k (onward s n x) y → P (suc k) x y)
      → ((k : ℕ) (x : Framed) → Ill (onward s n x) → P (suc k) x (onward s n x))
      → (k : ℕ) (x : Framed) → P k x (through k s n x)
  unfolding through
  walk P none on ends zero x = none x
  walk P none on ends (suc k) x =
      split (P (suc k) x) (accepted (onward s n x).frame.answer) _ _
      (λ e. on k x (through k s n (onward s n x)) e (walk P none on ends k (onward s n x)))
      (λ e. ends k x e)

  pub through_fits : (k : ℕ) (x : Framed) → x.frame.used ≤ length s → (through k s n x).frame.used ≤ length s
  through_fits =
      walk (λ k x y. x.frame.used ≤ length s → y.frame.used ≤ length s)
      (λ x h. h)
      (λ k x y e on h. on (onward_fits s n x h))
      (λ k x e h. onward_fits s n x h)

  -- all that are allowed are counted where the last was accepted, and fewer where it was not
  pub counted_all : (k : ℕ) (x : Framed) → Well x → Well (through k s n x) → (through k s n x).frame.accepted ≡ x.frame.accepted + k
  counted_all =
      walk (λ k x y. Well x → Well y → y.frame.accepted ≡ x.frame.accepted + k)
      (λ x w h. omega arith)
      (λ k x y e on w h. omega (arith, on e h, onward_counts s n x e))
      (λ k x e w h. absurd (true≢false (sym h ∙ e)))

  pub counted_fewer : (k : ℕ) (x : Framed) → Well x → Ill (through k s n x) → (through k s n x).frame.accepted < x.frame.accepted + k
  counted_fewer =
      walk (λ k x y. Well x → Ill y → y.frame.accepted < x.frame.accepted + k)
      (λ x w h. absurd (true≢false (sym w ∙ h)))
      (λ k x y e on w h. omega (arith, on e h, onward_counts s n x e))
      (λ k x e w h. omega (arith, onward_ends s n x e))

  -- b units more are allowed: the frame goes on from where a of them left it, or has ended there
  pub goes_on_lem : (b a : ℕ) (x : Framed) → Well x → Well (through a s n x) → through (a + b) s n x ≡ through b s n (through a s n x)
  goes_on_lem b =
      walk (λ a x y. Well x → Well y → through (a + b) s n x ≡ through b s n y)
      (λ x w h. let z : 0 + b ≡ b = omega arith in rw z)
      (λ a x y e on w h. let z : suc a + b ≡ suc (a + b) = omega arith in rw z (through_on s n x (a + b) e ∙ on e h))
      (λ a x e w h. absurd (true≢false (sym h ∙ e)))

  pub has_ended : (b a : ℕ) (x : Framed) → Well x → Ill (through a s n x) → through (a + b) s n x ≡ through a s n x
  has_ended b =
      walk (λ a x y. Well x → Ill y → through (a + b) s n x ≡ y)
      (λ x w h. absurd (true≢false (sym w ∙ h)))
      (λ a x y e on w h. let z : suc a + b ≡ suc (a + b) = omega arith in rw z (through_on s n x (a + b) e ∙ on e h))
      (λ a x e w h. let z : suc a + b ≡ suc (a + b) = omega arith in rw z (through_ends s n x (a + b) e))

  -- a frame that was not accepted to its end: so many units were, and then came the one that was not
  pub record Ended (x y : Framed) : Type 0 where
    pub before : ℕ
    pub well : Well (through before s n x)
    pub last : y ≡ onward s n (through before s n x)

  pub ended : (k : ℕ) (x : Framed) → Well x → Ill (through k s n x) → Ended x (through k s n x)
  ended =
      walk (λ k x y. Well x → Ill y → Ended x y)
      (λ x w h. absurd (true≢false (sym w ∙ h)))
      (λ k x y e on w h.
      let r = on e h in
      let z = through_on s n x r.before e in
      record { before = suc r.before; well = rw z r.well; last = rw z r.last })
      (λ k x e w h. record { before = 0; well = unfold through in w; last = unfold through in refl })

-- p units, q bytes and d rows before a frame are p, q and d more of them, and nothing else
abbrev pub further : ℕ → ℕ → ℕ → Framed → Framed
further p q d y =
    framed_of (record { answer = y.frame.answer; accepted = p + y.frame.accepted; used = q + y.frame.used; feed = y.frame.feed; dropped = d + y.frame.dropped }) y.tables

module _ (p q d : ℕ) (s : List ℕ) (n : ℕ) where
  onward_further : (y : Framed) → onward s n (further p q d y) ≡ further p q d (onward (drop q s) n y)
  unfolding onward
  onward_further y =
      let o : Outcome = outcome (state_of y.frame.feed y.tables) (Arrive (drop y.frame.used (drop q s)) n) in
      rw (← drop-drop y.frame.used q s)
      (λ i. framed_of
      (record {
        answer = o.given.answer;
        accepted = more (accepted o.given.answer) y.frame.accepted i;
        used = add_assoc q y.frame.used o.given.used i;
        feed = o.given.feed;
        dropped = add_assoc d y.frame.dropped o.given.dropped i;
      })
      o.tables)
    where
      more : (b : Bool) (a : ℕ) → cond b (p + a + 1) (p + a) ≡ p + cond b (a + 1) a
      more true a = add_assoc p a 1
      more false a = refl

  pub through_further : (k : ℕ) (y : Framed) → through k s n (further p q d y) ≡ further p q d (through k (drop q s) n y)
  through_further =
      walk (drop q s) n (λ k y z. through k s n (further p q d y) ≡ further p q d z)
      (λ y. unfold through in refl)
      (λ k y z e on. through_on s n (further p q d y) k (rw (onward_further y) e) ∙ ap (through k s n) (onward_further y) ∙ on)
      (λ k y e. through_ends s n (further p q d y) k (rw (onward_further y) e) ∙ onward_further y)

pub ruleset frames = (rules, stands, used_adds, dropped_adds, go_start, go_asks, go_done, go_more, go_stop)
