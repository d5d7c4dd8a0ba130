-- What the program prints, in bytes (document 01, example 10). Assumes nothing.
use Rattle.std.specs.Prelude.{ℕ, zero, suc, ◌+◌, ◌/◌, ◌%◌, cond, List, [], ◌∷◌, ◌++◌, ℤ, pos, negsuc, ltb, eqb}
use Rattle.ladder.specs.Message.{bid_side}
use Rattle.feed.specs.Program.{Line, Printed}

-- a number in decimal, no zero in front: its last digit, behind those of the number without it; `more` bounds how many those are,
-- and a number has fewer digits than units
unfoldable pub digits_of : ℕ → ℕ → List ℕ
digits_of zero n = (48 + n % 10) ∷ []
digits_of (suc more) n = cond (ltb n 10) [] (digits_of more (n / 10)) ++ ((48 + n % 10) ∷ [])

abbrev pub decimal : ℕ → List ℕ
decimal n = digits_of n n

-- a price with its sign: `-` in front of one below 0
abbrev pub signed : ℤ → List ℕ
signed (pos n) = decimal n
signed (negsuc n) = 45 ∷ decimal (n + 1)

-- `B` for the bids, `O` for the offers
abbrev pub letter : ℕ → ℕ
letter side = cond (eqb side bid_side) 66 79

abbrev pub space : List ℕ
space = 32 ∷ []

abbrev pub newline : List ℕ
newline = 10 ∷ []

-- "code side rank price quantity orders", with spaces between and a line's end
unfoldable pub line_text : Line → List ℕ
line_text l =
    decimal l.code ++ space ++ (letter l.side ∷ []) ++ space ++ decimal l.rank ++ space
    ++ signed l.price ++ space ++ decimal l.quantity ++ space ++ decimal l.orders ++ newline

unfoldable pub lines_text : List Line → List ℕ
lines_text [] = []
lines_text (l ∷ ls) = line_text l ++ lines_text ls

-- `code side rank price quantity orders`, a line
abbrev pub head_text : List ℕ
head_text =
    99 ∷ 111 ∷ 100 ∷ 101 ∷ 32
    ∷ 115 ∷ 105 ∷ 100 ∷ 101 ∷ 32
    ∷ 114 ∷ 97 ∷ 110 ∷ 107 ∷ 32
    ∷ 112 ∷ 114 ∷ 105 ∷ 99 ∷ 101 ∷ 32
    ∷ 113 ∷ 117 ∷ 97 ∷ 110 ∷ 116 ∷ 105 ∷ 116 ∷ 121 ∷ 32
    ∷ 111 ∷ 114 ∷ 100 ∷ 101 ∷ 114 ∷ 115 ∷ 10 ∷ []

-- `end ` and the last answer, ` units ` and the units accepted, a line
unfoldable pub end_text : ℕ → ℕ → List ℕ
end_text answer units = (101 ∷ 110 ∷ 100 ∷ 32 ∷ []) ++ decimal answer ++ (32 ∷ 117 ∷ 110 ∷ 105 ∷ 116 ∷ 115 ∷ 32 ∷ []) ++ decimal units ++ newline

-- all that is printed: the head line, the rows, the last line
abbrev pub text : Printed → List ℕ
text p = head_text ++ lines_text p.rows ++ end_text p.answer p.units
