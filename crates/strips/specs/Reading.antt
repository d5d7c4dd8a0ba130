-- Reading a strip by its code, a call of our own (DECISIONS 60). It writes nothing. Assumes nothing.
use Rattle.std.specs.Prelude.{ℕ, Bool, true, false, cond, not, List, [], ◌∷◌, ℤ, pos, eqb, Result, Ok, Err}
use Rattle.std.proofs.Math.IntN.{sub_ℕ}
use Rattle.ground.specs.Choice.{first}
use Rattle.ground.specs.Refusals.{refusal_no}
use Rattle.ground.specs.declared.Refusal.{Refusal}
use Rattle.wire.specs.Number.{bias}
use Rattle.wire.specs.Codes.{listed_code}
use Rattle.slots.specs.Layout.{place_in, unsound_at}
use Rattle.slots.specs.declared.Slot.{Slot}
use Rattle.slots.specs.declared.Slot.TheVariants.{Held, Free, Full}
use Rattle.strips.specs.Words.{come, value}
use Rattle.strips.specs.Table.{strips, strip_in}
use Rattle.strips.specs.declared.Strip.{Strip}
use Rattle.strips.specs.declared.Shown.{Shown}

-- what reading a strip gives: the answer, and with answer 0 the flags and the values, prices signed as sent, 0 where none has come
pub record StripRead : Type 0 where
  pub answer : ℕ
  pub flags : ℕ
  pub nominal : ℤ
  pub iep : ℤ
  pub iev : ℕ
  pub reference : ℤ
  pub lower : ℤ
  pub upper : ℤ
  pub direction : ℕ
  pub imbalance : ℕ
  pub closing : ℤ

-- no slot has the code
unfoldable pub no_strip : Slot → Bool
no_strip (Held k) = false
no_strip (Free k) = true
no_strip Full = true

-- as for rows: 15 (bad code), 4 (no strip), 18, else 0
unfoldable pub read_answer : ℕ → List ℕ → ℕ
read_answer c t =
    first
    ((not (listed_code c), 15)
    ∷ (no_strip (place_in strips c t), 4)
    ∷ (unsound_at strips (place_in strips c t) t, 18)
    ∷ [])
    0

-- a price signed as sent, and 0 while it has not come
unfoldable pub price_shown : ℕ → Strip → ℤ
price_shown k s = cond (come k s) (sub_ℕ (value k s) bias) (pos 0)

abbrev pub strip_shown : Strip → StripRead
strip_shown s = record {
  answer = 0;
  flags = s.flags;
  nominal = price_shown 0 s;
  iep = price_shown 1 s;
  iev = value 2 s;
  reference = price_shown 3 s;
  lower = price_shown 4 s;
  upper = price_shown 5 s;
  direction = value 6 s;
  imbalance = value 7 s;
  closing = price_shown 8 s;
}

-- with any other answer all is 0
abbrev pub strip_refused : ℕ → StripRead
strip_refused n = record {
  answer = n;
  flags = 0;
  nominal = pos 0;
  iep = pos 0;
  iev = 0;
  reference = pos 0;
  lower = pos 0;
  upper = pos 0;
  direction = 0;
  imbalance = 0;
  closing = pos 0;
}

unfoldable pub read_strip : ℕ → List ℕ → StripRead
read_strip c t = cond (eqb (read_answer c t) 0) (strip_shown (strip_in c t)) (strip_refused (read_answer c t))

-- what the code gives, a strip as it is shown (declared in src/lib.rt: Shown) or why there is none, as that record
abbrev pub read_as : Shown → StripRead
read_as s = record {
  answer = 0;
  flags = s.flags;
  nominal = s.nominal;
  iep = s.iep;
  iev = s.iev;
  reference = s.reference;
  lower = s.lower;
  upper = s.upper;
  direction = s.direction;
  imbalance = s.imbalance;
  closing = s.closing;
}

abbrev pub strip_read : Result Shown Refusal → StripRead
strip_read (Ok s) = read_as s
strip_read (Err e) = strip_refused (refusal_no e)
