use Prim.Native.Nat.{ℕ, ◌+◌, ◌-◌, ◌≤◌, ◌<◌}
use mathlib.Core.Path.{◌≡◌, refl, ap, ◌∙◌}
use mathlib.Core.Bool.{Bool, true, false, cond}
use mathlib.Core.List.{List}
use native.Mathlib.Omega.{arith}
use mir.Val.{bool_byte}
use borrow.Author.Rules.{rules}
use Rattle.ladder.specs.declared.Row.{Row}
use Rattle.ladder.proofs.Walks.{Walking, walking, stops, none_rank, no_side, none_fits, side_fits, walk_side, walk_clear, fits_told}
use Rattle.ladder.proofs.walking.walk.Goals as goal

one_if : (b : Bool) → bool_byte b ≡ cond b 1 0
one_if true = refl
one_if false = refl

-- the steps left are a to b: the one taken is a, and the next begins behind it
module _ {time : ℕ} {s : List ℕ} {n : ℕ} {rows₀ : List (List Row)} {counts₀ : List ℕ} {rows : List (List Row)} {counts : List ℕ} {d i a : ℕ} where
  turn : {b : ℕ} → Walking time s n rows₀ counts₀ rows counts d a → b ≡ n → 0 < b - a → i ≡ a → Walking time s n rows₀ counts₀ rows counts d i × (i < n)
  turn p e l q = rw q (p, omega (arith, e, l))

  onward : {k : ℕ} → Walking time s n rows₀ counts₀ rows counts d (i + 1) → i ≡ a → k ≡ a + 1 → Walking time s n rows₀ counts₀ rows counts d k
  onward p q r = rw (r, ← q) p

pub walk-init : goal.walk-init
walk-init c = search walking

pub returns-in_default : goal.returns-in_default
returns-in_default c =
    let h = c.walk in
    let l : c.args.entries.n ≤ h.steps.start = omega (arith, c.in_default.ensures.steps.1.0, h.invariant.1) in
    search (l, walking)

pub walk-preserved-then-e-eq-CLEAR : goal.walk-preserved-then-e-eq-CLEAR
walk-preserved-then-e-eq-CLEAR c =
    let h = c.walk in
    let g = c.in-Some.ensures in
    let t = turn h.invariant.0 h.invariant.1 g.steps.1.0 g.steps.1.1 in (
      onward
          (walk_clear _ _ _ _ _ h.rows h.counts h.dropped c.in-Some.i t.0 t.1 c.entry_at-e.result c.entry_at-e.ensures _ _ c.if-e-eq-CLEAR.true c.empty-none.ensures.0 c.empty-none.ensures.1) g.steps.1.1 g.steps.1.2,
      g.steps.0 ∙ h.invariant.1,
      h.invariant.2,
    )

pub returns-then-not-is_rank : goal.returns-then-not-is_rank
returns-then-not-is_rank c =
    let h = c.walk in
    let g = c.in-Some.ensures in
    let t = turn h.invariant.0 h.invariant.1 g.steps.1.0 g.steps.1.1 in
    rw h.invariant.2
    (stops _ _ _ _ _ h.rows h.counts h.dropped c.in-Some.i t.0 t.1 c.entry_at-e.result c.entry_at-e.ensures _ _
    (none_rank _ _ _ _ _ h.rows h.counts h.dropped c.in-Some.i t.0 t.1 c.entry_at-e.result c.entry_at-e.ensures c.if-e-eq-CLEAR.false (search (rules, c.is_rank.ensures.listed))))

pub returns-in_default-try_from : goal.returns-in_default-try_from
returns-in_default-try_from c =
    let h = c.walk in
    let g = c.in-Some.ensures in
    let t = turn h.invariant.0 h.invariant.1 g.steps.1.0 g.steps.1.1 in
    rw h.invariant.2
    (stops _ _ _ _ _ h.rows h.counts h.dropped c.in-Some.i t.0 t.1 c.entry_at-e.result c.entry_at-e.ensures _ _ (no_side _ c.entry_at-e.result _ c.if-e-eq-CLEAR.false c.in_default-try_from.ensures.0))

pub returns-then-not-fits_at : goal.returns-then-not-fits_at
returns-then-not-fits_at c =
    let h = c.walk in
    let g = c.in-Some.ensures in
    let t = turn h.invariant.0 h.invariant.1 g.steps.1.0 g.steps.1.1 in
    let rank = c.is_rank.ensures.within c.if-not-is_rank.false in
    rw h.invariant.2
    (stops _ _ _ _ _ h.rows h.counts h.dropped c.in-Some.i t.0 t.1 c.entry_at-e.result c.entry_at-e.ensures _ _
    (none_fits _ _ _ _ _ h.rows h.counts h.dropped c.in-Some.i t.0 t.1 c.entry_at-e.result c.entry_at-e.ensures c.if-e-eq-CLEAR.false c.in-Ok.ensures.0
    (fits_told h.rows h.counts c.entry_at-e.result c.in-Ok.way false c.fits_at.result c.saturating_sub.result t.0.sides c.in-Ok.ensures.0 rank.0 rank.1 c.in-Ok.ensures.1 c.saturating_sub.ensures c.fits_at.ensures c.if-not-fits_at.true)))

pub apply-applied-requires : goal.apply-applied-requires
apply-applied-requires c =
    let h = c.walk in
    let g = c.in-Some.ensures in
    let t = turn h.invariant.0 h.invariant.1 g.steps.1.0 g.steps.1.1 in
    let rank = c.is_rank.ensures.within c.if-not-is_rank.false in
    side_fits _ _ _ _ _ h.rows h.counts h.dropped c.in-Some.i t.0 t.1 c.entry_at-e.result c.entry_at-e.ensures c.in-Ok.ensures.0
    (fits_told h.rows h.counts c.entry_at-e.result c.in-Ok.way true c.fits_at.result c.saturating_sub.result t.0.sides c.in-Ok.ensures.0 rank.0 rank.1 c.in-Ok.ensures.1 c.saturating_sub.ensures c.fits_at.ensures c.if-not-fits_at.false)

pub walk-preserved : goal.walk-preserved
walk-preserved c =
    let h = c.walk in
    let g = c.in-Some.ensures in
    let t = turn h.invariant.0 h.invariant.1 g.steps.1.0 g.steps.1.1 in
    let rank = c.is_rank.ensures.within c.if-not-is_rank.false in (
      onward
          (walk_side _ _ _ _ _ h.rows h.counts h.dropped c.in-Some.i t.0 t.1 c.entry_at-e.result c.entry_at-e.ensures c.apply-applied.result _ c.if-e-eq-CLEAR.false c.in-Ok.ensures.0
          (fits_told h.rows h.counts c.entry_at-e.result c.in-Ok.way true c.fits_at.result c.saturating_sub.result t.0.sides c.in-Ok.ensures.0 rank.0 rank.1 c.in-Ok.ensures.1 c.saturating_sub.ensures c.fits_at.ensures c.if-not-fits_at.false)
          c.apply-applied.ensures (c.from-dropped.ensures ∙ one_if c.is_some.result ∙ ap (λ (b : Bool). cond b 1 0) c.is_some.ensures)) g.steps.1.1 g.steps.1.2,
      g.steps.0 ∙ h.invariant.1,
      h.invariant.2,
    )
