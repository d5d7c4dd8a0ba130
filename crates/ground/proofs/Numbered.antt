-- A refusal and its number tell each other, and no refusal has the number of what is not refused. Assumes nothing.
use Prim.Native.Nat.{ℕ}
use mathlib.Core.Path.{◌≡◌, refl}
use mathlib.Core.List.{[], ◌∷◌}
use Rattle.ground.specs.Choice.{pick}
use Rattle.ground.specs.Refusals.{refusal_no}
use Rattle.ground.specs.declared.Refusal.{Refusal}
use Rattle.ground.specs.declared.Refusal.TheVariants.{More, Missing, Early, Deaf, Size, Gap, Phase, Unlisted, Misfit, Full, Unsound, Limit, Need, TooLong}

-- a refusal by its number
abbrev pub refusal_of : ℕ → Refusal
refusal_of n =
    pick n
    ((3, More) ∷ (4, Missing) ∷ (10, Early) ∷ (11, Deaf) ∷ (12, Size) ∷ (13, Gap) ∷ (14, Phase) ∷ (15, Unlisted) ∷ (16, Misfit) ∷ (17, Full) ∷ (18, Unsound) ∷ (19, Limit)
    ∷ (20, Need) ∷ [])
    TooLong

pub back : (x : Refusal) → refusal_of (refusal_no x) ≡ x
unfolding pick
back More = refl
back Missing = refl
back Early = refl
back Deaf = refl
back Size = refl
back Gap = refl
back Phase = refl
back Unlisted = refl
back Misfit = refl
back Full = refl
back Unsound = refl
back Limit = refl
back Need = refl
back TooLong = refl

-- no refusal has the number of what is not refused
pub no_zero : (x : Refusal) → (0 ≡ refusal_no x) → ⊥
no_zero More e = absurd (cc)
no_zero Missing e = absurd (cc)
no_zero Early e = absurd (cc)
no_zero Deaf e = absurd (cc)
no_zero Size e = absurd (cc)
no_zero Gap e = absurd (cc)
no_zero Phase e = absurd (cc)
no_zero Unlisted e = absurd (cc)
no_zero Misfit e = absurd (cc)
no_zero Full e = absurd (cc)
no_zero Unsound e = absurd (cc)
no_zero Limit e = absurd (cc)
no_zero Need e = absurd (cc)
no_zero TooLong e = absurd (cc)
