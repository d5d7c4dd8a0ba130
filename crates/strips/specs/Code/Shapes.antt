-- The list of forms as the code goes about it: a type's size, its first value and how many it brings; the field of a value. Assumes nothing.
use Rattle.std.specs.Prelude.{ℕ, zero, suc, ◌+◌, ◌≤◌, ◌<◌, ◌≡◌, Bool, true, cond, ◌&&◌, List, [], ◌∷◌, leb, eqb, length, get_or, Option, Some, None, Result, Ok, Err}
use Rattle.ground.specs.Choice.{all}
use Rattle.ground.specs.declared.Refusal.{Refusal}
use Rattle.ground.specs.declared.Refusal.TheVariants.{Unsound}
use Rattle.wire.specs.Number.{word32}
use Rattle.wire.specs.Units.{msg_type}
use Rattle.strips.specs.Forms.{Field, place, Form, forms, form_of, fields_of, is_strip, strip_sized}
use Rattle.strips.specs.Words.{value_count, strip_of, come, value, sound}
use Rattle.strips.specs.declared.Sort.{Sort}
use Rattle.strips.specs.declared.Sort.TheVariants.{Price, Quantity, Direction, Imbalance}
use Rattle.strips.specs.declared.Shape.{Shape}
use Rattle.strips.specs.declared.Strip.{Strip}
use Rattle.strips.specs.declared.Source.{Source}

abbrev pub shape : ℕ → ℕ → ℕ → Shape
shape size first count = record { size = size; first = first; count = count }

-- no field
abbrev pub no_field : Field
no_field = place 0 0 Price 0

-- the shape of a form, and so of a type
abbrev pub shape_in : Form → Shape
shape_in f = shape f.size (get_or f.fields 0 no_field).number (length f.fields)

unfoldable pub shape_of : ℕ → Shape
shape_of t = shape_in (form_of t)

-- the shape of a type that is one of the strip's
abbrev pub shape_if : ℕ → Option Shape
shape_if t = cond (is_strip t) (Some (shape_of t)) None

-- what the code asks of a field: where it is, and its kind
abbrev pub source : ℕ → Sort → Source
source at sort = record { at = at; sort = sort }

abbrev pub source_in : Field → Source
source_in f = source f.at f.sort

-- the field that brings value k, and those of so many values
unfoldable pub field_of : ℕ → Field
field_of k = get_or (fields_of forms) k no_field

unfoldable pub fields_from : ℕ → ℕ → List Field
fields_from first zero = []
fields_from first (suc n) = field_of first ∷ fields_from (first + 1) n

-- a field lies inside a message, as wide as its kind, behind the direction if it is an imbalance's quantity
unfoldable pub width_of : Sort → ℕ
width_of Price = 4
width_of Quantity = 8
width_of Direction = 1
width_of Imbalance = 8

abbrev pub lies : ℕ → Field → Bool
lies size f = eqb f.width (width_of f.sort) && leb (f.at + f.width) size && leb 12 size

pub record Inside (m : List ℕ) (f : Field) : Type 0 where
  pub wide : f.width ≡ width_of f.sort
  pub there : f.at + f.width ≤ length m
  pub head : 12 ≤ length m

-- so do those of the values from `first` on
pub record Spans (m : List ℕ) (first count : ℕ) : Type 0 where
  pub few : first + count ≤ value_count
  pub inside : all (lies (length m)) (fields_from first count) ≡ true

-- a strip message of the right size
pub record Sized (m : List ℕ) : Type 0 where
  pub listed : is_strip (msg_type m) ≡ true
  pub right : strip_sized m ≡ true

-- a price that has come is one
pub record PriceAt (k : ℕ) (s : Strip) : Type 0 where
  pub below : come k s ≡ true → value k s < word32

-- the strip of a slot's words, if they are sound
abbrev pub sound_strip_of : List ℕ → Result Strip Refusal
sound_strip_of w = cond (sound w) (Ok (strip_of w)) (Err Unsound)
