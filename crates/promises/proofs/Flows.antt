-- Bytes through a holding buffer, as one list: the finished units at its front go through the feed, one after the other, and bytes that follow change
-- nothing of what is due. Assumes nothing.
use Prim.Native.Nat.{ℕ, zero, suc, ◌≤◌, ◌<◌}
use native.Mathlib.Omega.{arith}
use mathlib.Core.Path.{◌≡◌, refl, sym, ap, ◌∙◌}
use mathlib.Core.Bool.{Bool, true, false, cond, not, ◌||◌, true≢false}
use mathlib.Core.List.{List, [], ◌∷◌, ◌++◌, append_assoc}
use lib.ListN.{length, take, drop, length-drop}
use lib.Seq.{take-append-le, drop-append-le}
use Rattle.feed.specs.Events.{State, Event, Arrive, Overrun}
use Rattle.feed.specs.Steps.{accepted}
use Rattle.feed.proofs.Following.{overrun_not}
use Rattle.lines.specs.Looks.{look}
use Rattle.lines.specs.declared.Look.{Look}
use Rattle.lines.specs.declared.Look.TheVariants.{Waits, TooLong, Finished}
use Rattle.lines.proofs.Fronts.{look_finished, look_stays}
use Rattle.lines.proofs.Cases.{cond_yes, cond_no}
use Rattle.promises.specs.Runs.{after, answer_of}
use Rattle.promises.specs.Scraps.{View}

unfoldable pub is_waits : Look → Bool
is_waits Waits = true
is_waits TooLong = false
is_waits (Finished n) = false

-- the event of what is due, and its bytes
unfoldable pub event_of : Look → List ℕ → ℕ → Event
event_of Waits s t = Overrun t
event_of TooLong s t = Overrun t
event_of (Finished n) s t = Arrive (take n s) t

unfoldable pub size_of : Look → ℕ
size_of Waits = 0
size_of TooLong = 0
size_of (Finished n) = n

-- an event more, with what is left behind it: a refusal leaves nothing, and drops what comes
unfoldable pub told : View → Event → List ℕ → View
told l e rest = record {
  said = l.said ++ ((e, answer_of l.state e) ∷ []);
  state = after l.state e;
  waiting = cond (accepted (answer_of l.state e)) rest [];
  dropping = not (accepted (answer_of l.state e));
}

unfoldable pub joined : List ℕ → View → View
joined b l = record { said = l.said; state = l.state; waiting = l.waiting ++ b; dropping = l.dropping }

abbrev yes? : View → Event → Bool
yes? l e = accepted (answer_of l.state e)

module _ (l : View) (e : Event) (r b : List ℕ) where
  told_on : yes? l e ≡ true → told l e (r ++ b) ≡ joined b (told l e r)
  unfolding told joined
  told_on h = rw h

  told_off : yes? l e ≡ false → told l e (r ++ b) ≡ told l e r
  unfolding told
  told_off h = rw h

module _ (r t : ℕ) where
  abbrev pub looks : View → Look
  looks l = look r 0 l.waiting

  abbrev pub event : View → Event
  event l = event_of (looks l) l.waiting t

  unfoldable pub answered : View → View
  answered l = told l (event l) (drop (size_of (looks l)) l.waiting)

  -- nothing is due
  unfoldable pub rests : View → Bool
  rests l = l.dropping || is_waits (looks l)

  unfoldable pub pump : ℕ → View → View
  pump zero l = l
  pump (suc n) l = cond (rests l) l (pump n (answered l))

  pub pump_rest : (n : ℕ) (l : View) → rests l ≡ true → pump n l ≡ l
  unfolding pump
  pump_rest zero l h = refl
  pump_rest (suc n) l h = rw h

  pub pump_go : (n : ℕ) (l : View) → rests l ≡ false → pump (suc n) l ≡ pump n (answered l)
  unfolding pump
  pump_go n l h = rw h

  busy : (l : View) → rests l ≡ false → (l.dropping ≡ false) × (is_waits (looks l) ≡ false)
  unfolding rests
  busy l = go l.dropping (is_waits (looks l))
    where
      go : (a b : Bool) → (a || b) ≡ false → (a ≡ false) × (b ≡ false)
      go true b h = absurd (true≢false h)
      go false b h = (refl, h)

  -- what is left to do: nothing after a refusal
  unfoldable pub size : View → ℕ
  size l = cond l.dropping 0 (suc (length l.waiting))

  size_fits : (w : List ℕ) (v : Look) → look r 0 w ≡ v → size_of v ≤ length w
  unfolding size_of
  size_fits w Waits e = omega arith
  size_fits w TooLong e = omega arith
  size_fits w (Finished n) e = (look_finished r 0 w n e).2

  taken_off : (s : State) (w : List ℕ) (v : Look) → look r 0 w ≡ v → is_waits v ≡ false → accepted (answer_of s (event_of v w t)) ≡ true
      → suc (length (drop (size_of v) w)) < suc (length w)
  unfolding is_waits size_of event_of
  taken_off s w Waits e m h = absurd (true≢false m)
  taken_off s w TooLong e m h = absurd (true≢false (sym h ∙ overrun_not s t))
  taken_off s w (Finished n) e m h = let f = look_finished r 0 w n e in simp length-drop (omega (arith, f.2, f.3))

  smaller : (l : View) → rests l ≡ false → size (answered l) < size l
  unfolding size answered told
  smaller l h =
      let b = busy l h in
      rw b.0 (go (yes? l (event l)) refl)
    where
      go : (a : Bool) → yes? l (event l) ≡ a → cond (not a) 0 (suc (length (cond a (drop (size_of (looks l)) l.waiting) []))) < suc (length l.waiting)
      go true e = taken_off l.state l.waiting (looks l) refl (busy l h).1 e
      go false e = omega arith

  none_left : (l : View) → size l ≤ 0 → rests l ≡ true
  unfolding size rests
  none_left l = go l.dropping
    where
      go : (a : Bool) → cond a 0 (suc (length l.waiting)) ≤ 0 → (a || is_waits (looks l)) ≡ true
      go true h = refl
      go false h = absurd (let z : suc (length l.waiting) ≤ 0 = h in omega arith)

  -- any number of turns that suffices does the same, and comes to rest
  pub pump_same : (n m : ℕ) (l : View) → size l ≤ n → size l ≤ m → pump n l ≡ pump m l
  pump_same zero m l p q = pump_rest zero l (none_left l p) ∙ sym (pump_rest m l (none_left l p))
  pump_same (suc n) zero l p q = pump_rest (suc n) l (none_left l q) ∙ sym (pump_rest zero l (none_left l q))
  pump_same (suc n) (suc m) l p q = go (rests l) refl (pump_same n m (answered l))
    where
      go : (a : Bool) → rests l ≡ a → (size (answered l) ≤ n → size (answered l) ≤ m → pump n (answered l) ≡ pump m (answered l)) → pump (suc n) l ≡ pump (suc m) l
      go true e f = pump_rest (suc n) l e ∙ sym (pump_rest (suc m) l e)
      go false e f = let k = smaller l e in pump_go n l e ∙ f (omega arith) (omega arith) ∙ sym (pump_go m l e)

  pub settles : (n : ℕ) (l : View) → size l ≤ n → rests (pump n l) ≡ true
  settles zero l p = rw (pump_rest zero l (none_left l p)) (none_left l p)
  settles (suc n) l p = go (rests l) refl (settles n (answered l))
    where
      go : (a : Bool) → rests l ≡ a → (size (answered l) ≤ n → rests (pump n (answered l)) ≡ true) → rests (pump (suc n) l) ≡ true
      go true e f = rw (pump_rest (suc n) l e) e
      go false e f = let k = smaller l e in rw (pump_go n l e) (f (omega arith))

  module _ (b : List ℕ) where
    stays : (l : View) → is_waits (looks l) ≡ false → looks (joined b l) ≡ looks l
    unfolding joined is_waits
    stays l h = look_stays r 0 l.waiting b (looks l) refl (λ e. absurd (true≢false (sym (ap is_waits e) ∙ h)))

    event_stays : (w : List ℕ) (v : Look) → size_of v ≤ length w → event_of v (w ++ b) t ≡ event_of v w t
    unfolding event_of size_of
    event_stays w Waits k = refl
    event_stays w TooLong k = refl
    event_stays w (Finished n) k = ap (λ (u : List ℕ). Arrive u t) (take-append-le n w b k)

    -- bytes that follow do not change what is due now
    joined_rests : (l : View) → rests l ≡ false → rests (joined b l) ≡ false
    joined_rests l h = let k = busy l h in go k (stays l k.1)
      where
        go : (l.dropping ≡ false) × (is_waits (looks l) ≡ false) → looks (joined b l) ≡ looks l → rests (joined b l) ≡ false
        go k e = unfold rests joined in (rw k.0 (ap is_waits (unfold joined in e) ∙ k.1))

    joined_told : (l : View) → rests l ≡ false → answered (joined b l) ≡ told l (event l) (drop (size_of (looks l)) l.waiting ++ b)
    unfolding answered joined told
    joined_told l h =
        let k = busy l h in
        let f = size_fits l.waiting (looks l) refl in
        let e : look r 0 (l.waiting ++ b) ≡ look r 0 l.waiting = stays l k.1 in
        rw (e, event_stays l.waiting (looks l) f, drop-append-le (size_of (looks l)) l.waiting b f)

    joined_on : (l : View) → rests l ≡ false → yes? l (event l) ≡ true → answered (joined b l) ≡ joined b (answered l)
    unfolding answered
    joined_on l h e = joined_told l h ∙ told_on l (event l) (drop (size_of (looks l)) l.waiting) b e

    joined_off : (l : View) → rests l ≡ false → yes? l (event l) ≡ false → answered (joined b l) ≡ answered l
    unfolding answered
    joined_off l h e = joined_told l h ∙ told_off l (event l) (drop (size_of (looks l)) l.waiting) b e

    -- what comes after, unless it is dropped
    unfoldable pub later : ℕ → View → View
    later k l = cond l.dropping l (pump k (joined b l))

    dropping_of : (l : View) (a : Bool) → yes? l (event l) ≡ a → (answered l).dropping ≡ not a
    unfolding answered told
    dropping_of l a e = rw e

    pub dropped_rests : (l : View) → l.dropping ≡ true → rests l ≡ true
    unfolding rests
    dropped_rests l e = rw e

    pub later_off : (k : ℕ) (l : View) → l.dropping ≡ true → later k l ≡ l
    unfolding later
    later_off k l e = cond_yes l.dropping _ _ e

    pub later_on : (k : ℕ) (l : View) → l.dropping ≡ false → later k l ≡ pump k (joined b l)
    unfolding later
    later_on k l e = cond_no l.dropping _ _ e

    some_left : (l : View) → l.dropping ≡ false → size l ≤ 0 → ⊥
    unfolding size
    some_left l d p = let z : suc (length l.waiting) ≤ 0 = rw d at p in omega arith

    pub cut : (n m k : ℕ) (l : View) → l.dropping ≡ false → size l ≤ n → size (joined b l) ≤ m → size (joined b (pump n l)) ≤ k
        → pump m (joined b l) ≡ later k (pump n l)
    cut zero m k l d p q u = absurd (some_left l d p)
    cut (suc n) m k l d p q u = go (rests l) refl (yes? l (event l)) refl m q (λ m'. cut n m' k (answered l))
      where
        go : (x : Bool) → rests l ≡ x → (y : Bool) → yes? l (event l) ≡ y → (m : ℕ) → size (joined b l) ≤ m
            → ((m' : ℕ) → (answered l).dropping ≡ false → size (answered l) ≤ n → size (joined b (answered l)) ≤ m'
            → size (joined b (pump n (answered l))) ≤ k → pump m' (joined b (answered l)) ≡ later k (pump n (answered l)))
            → pump m (joined b l) ≡ later k (pump (suc n) l)
        go true e y f m q ih =
            let z : pump (suc n) l ≡ l = pump_rest (suc n) l e in
            let u' : size (joined b l) ≤ k = rw z at u in
            rw z (pump_same m k (joined b l) q u' ∙ sym (later_on k l d))
        go false e y f zero q ih = absurd (true≢false (sym (none_left (joined b l) q) ∙ joined_rests l e))
        go false e true f (suc m) q ih =
            let j : answered (joined b l) ≡ joined b (answered l) = joined_on l e f in
            let s₁ = smaller l e in
            let s₂ = smaller (joined b l) (joined_rests l e) in
            let s₃ : size (joined b (answered l)) < size (joined b l) = rw j at s₂ in
            let z : pump (suc n) l ≡ pump n (answered l) = pump_go n l e in
            let u' : size (joined b (pump n (answered l))) ≤ k = rw z at u in
            pump_go m (joined b l) (joined_rests l e) ∙ ap (pump m) j ∙ ih m (dropping_of l true f) (omega arith) (omega arith) u' ∙ ap (later k) (sym z)
        go false e false f (suc m) q ih =
            let j : answered (joined b l) ≡ answered l = joined_off l e f in
            let o : (answered l).dropping ≡ true = dropping_of l false f in
            let w : rests (answered l) ≡ true = dropped_rests (answered l) o in
            let z : pump (suc n) l ≡ answered l = pump_go n l e ∙ pump_rest n (answered l) w in
            pump_go m (joined b l) (joined_rests l e) ∙ ap (pump m) j ∙ pump_rest m (answered l) w ∙ sym (later_off k (answered l) o) ∙ ap (later k) (sym z)

  pub joined_size : (l : View) (b : List ℕ) → l.dropping ≡ false → size (joined b l) ≡ suc (length (l.waiting ++ b))
  unfolding size joined
  joined_size l b d = cond_no l.dropping 0 (suc (length (l.waiting ++ b))) d

  pub any_size : (l : View) → size l ≤ suc (length l.waiting)
  unfolding size
  any_size l = go l.dropping
    where
      go : (x : Bool) → cond x 0 (suc (length l.waiting)) ≤ suc (length l.waiting)
      go true = omega arith
      go false = omega arith

-- more bytes, and more again
pub joined_twice : (a b : List ℕ) (l : View) → joined b (joined a l) ≡ joined (a ++ b) l
unfolding joined
joined_twice a b l = rw (append_assoc l.waiting a b)
