-- The messages of the price strip, in one list: all that is said of them here is said over that list (document 02, request 2; 003, sections
-- 3.8.5 and 3.9, copied in docs/HEADER.md). Assumes nothing.
use Rattle.std.specs.Prelude.{ℕ, Bool, true, cond, ◌&&◌, List, [], ◌∷◌, ◌++◌, map, length, eqb}
use Rattle.ground.specs.Choice.{one_of, pick, all}
use Rattle.wire.specs.Number.{field, biased}
use Rattle.wire.specs.Units.{msg_type}
use Rattle.wire.specs.Codes.{security_code, listed_code}
use Rattle.strips.specs.declared.Sort.{Sort}
use Rattle.strips.specs.declared.Sort.TheVariants.{Price, Quantity, Direction, Imbalance}

-- a field: offset, width, kind, value number (the kinds are declared in src/lib.rt: Sort)
pub record Field : Type 0 where
  pub at : ℕ
  pub width : ℕ
  pub sort : Sort
  pub number : ℕ

abbrev pub place : ℕ → ℕ → Sort → ℕ → Field
place at width sort number = record { at = at; width = width; sort = sort; number = number }

-- a message: its size, and its fields
pub record Form : Type 0 where
  pub size : ℕ
  pub fields : List Field

abbrev pub form : ℕ → List Field → Form
form size fields = record { size = size; fields = fields }

-- "nominal price (40, 12 bytes), IEP and its volume (41, 20), reference, lower and upper price (43, 20), order imbalance (56, 20) and closing price
-- (62, 16)"; the values 0 to 8 "as listed here, direction before quantity". A sixth message would be one line more
abbrev pub forms : List (ℕ × Form)
forms =
    (40, form 12 (place 8 4 Price 0 ∷ []))
    ∷ (41, form 20 (place 8 4 Price 1 ∷ place 12 8 Quantity 2 ∷ []))
    ∷ (43, form 20 (place 8 4 Price 3 ∷ place 12 4 Price 4 ∷ place 16 4 Price 5 ∷ []))
    ∷ (56, form 20 (place 8 1 Direction 6 ∷ place 10 8 Imbalance 7 ∷ []))
    ∷ (62, form 16 (place 8 4 Price 8 ∷ []))
    ∷ []

-- the form of a type, which no other type has
unfoldable pub form_of : ℕ → Form
form_of t = pick t forms (form 0 [])

abbrev pub form_in : List ℕ → Form
form_in m = form_of (msg_type m)

-- whether a type is in the list
unfoldable pub is_strip : ℕ → Bool
is_strip t = one_of t (map (λ p. p.0) forms)

-- "Wrong sizes for these types become 12": the right one
unfoldable pub strip_sized : List ℕ → Bool
strip_sized m = eqb (length m) (form_in m).size

-- all fields, in the order of the list, which is that of their values
unfoldable pub fields_of : List (ℕ × Form) → List Field
fields_of [] = []
fields_of (p ∷ ps) = p.1.fields ++ fields_of ps

-- the kinds of the values 0 to 8
abbrev pub sorts : List Sort
sorts = map (λ f. f.sort) (fields_of forms)

-- "Imbalance direction must be N, B, S or space"
abbrev pub space : ℕ
space = 32

abbrev pub directions : List ℕ
directions = 78 ∷ 66 ∷ 83 ∷ space ∷ []

-- where an imbalance's quantity has its direction
abbrev pub direction : List ℕ → ℕ
direction m = field 8 1 m

-- what a field's number becomes: "prices plus 2,147,483,648"; "with a space the quantity is stored as 0"
unfoldable pub value_of : Sort → List ℕ → ℕ → ℕ
value_of Price m raw = biased raw
value_of Quantity m raw = raw
value_of Direction m raw = raw
value_of Imbalance m raw = cond (eqb (direction m) space) 0 raw

abbrev pub brings : List ℕ → Field → ℕ
brings m f = value_of f.sort m (field f.at f.width m)

-- what is judged of a field: a direction alone
unfoldable pub listed_as : Sort → ℕ → Bool
listed_as Price raw = true
listed_as Quantity raw = true
listed_as Direction raw = one_of raw directions
listed_as Imbalance raw = true

abbrev pub listed_field : List ℕ → Field → Bool
listed_field m f = listed_as f.sort (field f.at f.width m)

-- "Imbalance direction must be N, B, S or space, else 15", "a bad code is 15": where this fails. Filler is not judged
unfoldable pub listed_strip : List ℕ → Bool
listed_strip m = listed_code (security_code m) && all (listed_field m) (form_in m).fields
