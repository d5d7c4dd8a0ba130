-- A case for each sentence of request 7, "Password rule, old and new" (document 02): what a new password gets under edition 1.11 and under 1.36, by number: 0 passes,
-- 1 length, 2 upper, 3 lower, 4 digit, 5 special, 6 history, 23 no history, 15 another edition. Assumes nothing.
use Rattle.std.specs.Prelude.{ℕ, zero, suc, ◌+◌, cond, ◌&&◌, List, [], ◌∷◌, ◌++◌, map, length, take, drop, replicate, eqb}
use Prim.Native.String.{String}
use Rattle.ground.specs.Choice.{same}
use Rattle.password.specs.Rule.{plain_verdict}
use Rattle.promises.specs.Checks.{Check}
use Rattle.promises.specs.Build.{joined}

-- with the last passwords as they are lent, whatever their lengths: what 1.11 says, and what 1.36 says
unfoldable pub under_lent : String → List ℕ → List ℕ → List ℕ → ℕ → ℕ → Check
under_lent name new lengths history old now =
    record { name = name; holds = eqb (plain_verdict 111 new lengths history) old && eqb (plain_verdict 136 new lengths history) now }

-- and with the last passwords one by one
unfoldable pub under : String → List ℕ → List (List ℕ) → ℕ → ℕ → Check
under name new last old now = under_lent name new (map (λ (p : List ℕ). length p) last) (joined last) old now

-- a password of so many M, then m, then 5, then #
unfoldable pub made : ℕ → ℕ → ℕ → ℕ → List ℕ
made upper lower digit special = replicate upper 77 ++ (replicate lower 109 ++ (replicate digit 53 ++ replicate special 35))

-- 16 bytes with one of each, 8 bytes without a special character
unfoldable pub sixteen : List ℕ
sixteen = made 1 13 1 1

unfoldable pub eight : List ℕ
eight = made 1 6 1 0

-- each item alone, each two neighbours at once, and lengths
unfoldable pub items : List Check
items =
    under "16 bytes with one of each" sixteen [] 0 0
    ∷ under "8 bytes: long enough for 1.11 alone" eight [] 0 1
    ∷ under "8 bytes with a special character" (made 1 5 1 1) [] 0 1
    ∷ under "7 bytes" (made 1 5 1 0) [] 1 1
    ∷ under "7 bytes with a special character" (made 1 4 1 1) [] 1 1
    ∷ under "15 bytes" (made 1 12 1 1) [] 0 1
    ∷ under "17 bytes" (made 1 14 1 1) [] 0 0
    ∷ under "21 bytes, more than a logon has room for" (made 1 18 1 1) [] 0 0
    ∷ under "300 bytes" (made 1 297 1 1) [] 0 0
    ∷ under "no bytes" [] [] 1 1
    ∷ under "no upper case letter" (made 0 14 1 1) [] 2 2
    ∷ under "no lower case letter" (made 14 0 1 1) [] 3 3
    ∷ under "no digit" (made 1 14 0 1) [] 4 4
    ∷ under "no special character" (made 1 14 1 0) [] 0 5
    ∷ under "the last one again" sixteen (sixteen ∷ []) 6 6
    ∷ under "the last one again, of 8 bytes" eight (eight ∷ []) 6 1
    ∷ under "short and no upper" (made 0 5 1 0) [] 1 1
    ∷ under "short for 1.36, and no upper" (made 0 13 1 1) [] 2 1
    ∷ under "no upper and no lower" (made 0 0 15 1) [] 2 2
    ∷ under "no lower and no digit" (made 15 0 0 1) [] 3 3
    ∷ under "no digit and no special" (made 1 15 0 0) [] 4 4
    ∷ under "no special, and the last one again" (made 1 14 1 0) (made 1 14 1 0 ∷ []) 6 5
    ∷ under "no digit, and the last one again" (made 1 14 0 1) (made 1 14 0 1 ∷ []) 4 4
    ∷ under "short, and the last one again" (made 1 5 1 0) (made 1 5 1 0 ∷ []) 1 1
    ∷ under "long, and nothing else" (replicate 16 37) (replicate 16 37 ∷ []) 2 2
    ∷ under "nothing at all, and the last one again" [] ([] ∷ []) 1 1
    ∷ under "the letters first and last" (65 ∷ (replicate 14 37 ++ (90 ∷ []))) [] 3 3
    ∷ under "each class in the middle" (replicate 6 37 ++ (made 1 1 1 1 ++ replicate 6 37)) [] 0 0
    ∷ under "other characters are not judged" (0 ∷ 10 ∷ 32 ∷ 127 ∷ 255 ∷ (made 1 8 1 1 ++ (0 ∷ []))) [] 0 0
    ∷ []

-- of the bytes below a number, those with which behind it a password passes under an edition
unfoldable pub passing : ℕ → List ℕ → ℕ → List ℕ
passing edition new zero = []
passing edition new (suc n) = passing edition new n ++ cond (eqb (plain_verdict edition (new ++ (n ∷ [])) [] []) 0) (n ∷ []) []

unfoldable pub range : ℕ → ℕ → List ℕ
range from zero = []
range from (suc n) = from ∷ range (from + 1) n

-- of all 256 bytes, those that make up for what a password of 16 lacks
unfoldable pub make_up : String → ℕ → List ℕ → List ℕ → Check
make_up name edition new bytes = record { name = name; holds = same (passing edition new 256) bytes }

unfoldable pub classes : List Check
classes =
    make_up "upper case letters are A to Z" 111 (made 0 14 1 1) (range 65 26)
    ∷ make_up "upper case letters in 1.36" 136 (made 0 14 1 1) (range 65 26)
    ∷ make_up "lower case letters are a to z" 111 (made 14 0 1 1) (range 97 26)
    ∷ make_up "lower case letters in 1.36" 136 (made 14 0 1 1) (range 97 26)
    ∷ make_up "digits are 0 to 9" 111 (made 1 14 0 1) (range 48 10)
    ∷ make_up "digits in 1.36" 136 (made 1 14 0 1) (range 48 10)
    ∷ make_up "special are ! # $ & ( ) * @ ^, and neither % nor +" 136 (made 1 14 1 0) (33 ∷ 35 ∷ 36 ∷ 38 ∷ 40 ∷ 41 ∷ 42 ∷ 64 ∷ 94 ∷ [])
    ∷ []

-- the bytes beside the borders, one by one
unfoldable pub borders : List Check
borders =
    under "64 is no letter" (made 0 14 1 1 ++ (64 ∷ [])) [] 2 2
    ∷ under "65, A" (made 0 14 1 1 ++ (65 ∷ [])) [] 0 0
    ∷ under "90, Z" (made 0 14 1 1 ++ (90 ∷ [])) [] 0 0
    ∷ under "91 is no letter" (made 0 14 1 1 ++ (91 ∷ [])) [] 2 2
    ∷ under "96 is no letter" (made 14 0 1 1 ++ (96 ∷ [])) [] 3 3
    ∷ under "97, a" (made 14 0 1 1 ++ (97 ∷ [])) [] 0 0
    ∷ under "122, z" (made 14 0 1 1 ++ (122 ∷ [])) [] 0 0
    ∷ under "123 is no letter" (made 14 0 1 1 ++ (123 ∷ [])) [] 3 3
    ∷ under "47 is no digit" (made 1 14 0 1 ++ (47 ∷ [])) [] 4 4
    ∷ under "48, 0" (made 1 14 0 1 ++ (48 ∷ [])) [] 0 0
    ∷ under "57, 9" (made 1 14 0 1 ++ (57 ∷ [])) [] 0 0
    ∷ under "58 is no digit" (made 1 14 0 1 ++ (58 ∷ [])) [] 4 4
    ∷ under "!" (made 1 14 1 0 ++ (33 ∷ [])) [] 0 0
    ∷ under "@" (made 1 14 1 0 ++ (64 ∷ [])) [] 0 0
    ∷ under "#" (made 1 14 1 0 ++ (35 ∷ [])) [] 0 0
    ∷ under "$" (made 1 14 1 0 ++ (36 ∷ [])) [] 0 0
    ∷ under "^" (made 1 14 1 0 ++ (94 ∷ [])) [] 0 0
    ∷ under "&" (made 1 14 1 0 ++ (38 ∷ [])) [] 0 0
    ∷ under "*" (made 1 14 1 0 ++ (42 ∷ [])) [] 0 0
    ∷ under "(" (made 1 14 1 0 ++ (40 ∷ [])) [] 0 0
    ∷ under ")" (made 1 14 1 0 ++ (41 ∷ [])) [] 0 0
    ∷ under "% is not special" (made 1 14 1 0 ++ (37 ∷ [])) [] 0 5
    ∷ under "+ is not special" (made 1 14 1 0 ++ (43 ∷ [])) [] 0 5
    ∷ []

-- passwords of 16 bytes and more that pass, no two alike
unfoldable pub others : List (List ℕ)
others = made 2 12 1 1 ∷ made 1 12 2 1 ∷ made 1 12 1 2 ∷ made 1 14 1 1 ∷ []

-- what is lent as the last passwords
unfoldable pub histories : List Check
histories =
    under "none of four" sixteen others 0 0
    ∷ under "the first of five" sixteen (sixteen ∷ others) 6 6
    ∷ under "the last of five" sixteen (others ++ (sixteen ∷ [])) 6 6
    ∷ under "the third of five" sixteen (take 2 others ++ (sixteen ∷ drop 2 others)) 6 6
    ∷ under "twice among five" sixteen (sixteen ∷ (take 3 others ++ (sixteen ∷ []))) 6 6
    ∷ under "a prefix of a last one" sixteen ((sixteen ++ (35 ∷ [])) ∷ []) 0 0
    ∷ under "a last one is a prefix" (sixteen ++ (35 ∷ [])) (sixteen ∷ []) 0 0
    ∷ under "the end of a last one" sixteen ((35 ∷ sixteen) ∷ []) 0 0
    ∷ under "a last one but for its first byte" sixteen ((78 ∷ drop 1 sixteen) ∷ []) 0 0
    ∷ under "a last one but for its last byte" sixteen ((take 15 sixteen ++ (36 ∷ [])) ∷ []) 0 0
    ∷ under "a last one in other case" sixteen ((109 ∷ drop 1 sixteen) ∷ []) 0 0
    ∷ under "the bytes of two last ones" sixteen (take 8 sixteen ∷ drop 8 sixteen ∷ []) 0 0
    ∷ under "an empty one before it" sixteen ([] ∷ sixteen ∷ []) 6 6
    ∷ under "an empty one behind it" sixteen (sixteen ∷ [] ∷ []) 6 6
    ∷ under "an empty one" sixteen ([] ∷ []) 0 0
    ∷ under "five empty ones" sixteen ([] ∷ [] ∷ [] ∷ [] ∷ [] ∷ []) 0 0
    ∷ under "six empty ones" sixteen ([] ∷ [] ∷ [] ∷ [] ∷ [] ∷ [] ∷ []) 23 23
    ∷ under "six, none of them" sixteen (eight ∷ eight ∷ others) 23 23
    ∷ under "six, and it is the first" sixteen (sixteen ∷ eight ∷ others) 23 23
    ∷ under_lent "no lengths and no bytes" sixteen [] [] 0 0
    ∷ under_lent "no lengths, and a byte" sixteen [] (77 ∷ []) 23 23
    ∷ under_lent "a length, and no bytes" sixteen (1 ∷ []) [] 23 23
    ∷ under_lent "a byte more than the lengths" sixteen (16 ∷ []) (sixteen ++ (77 ∷ [])) 23 23
    ∷ under_lent "a byte less" sixteen (16 ∷ 1 ∷ []) sixteen 23 23
    ∷ under_lent "lengths of 0 between" sixteen (0 ∷ 2 ∷ 0 ∷ []) (77 ∷ 109 ∷ []) 0 0
    ∷ under_lent "2^63 twice and 2, of 2 bytes" sixteen (9223372036854775808 ∷ 9223372036854775808 ∷ 2 ∷ []) (77 ∷ 109 ∷ []) 23 23
    ∷ under_lent "2^63 twice, of none" sixteen (9223372036854775808 ∷ 9223372036854775808 ∷ []) [] 23 23
    ∷ under_lent "2^64 - 1 and 3, of 2 bytes" sixteen (18446744073709551615 ∷ 3 ∷ []) (77 ∷ 109 ∷ []) 23 23
    ∷ under_lent "3 and 2^64 - 1, of 2 bytes" sixteen (3 ∷ 18446744073709551615 ∷ []) (77 ∷ 109 ∷ []) 23 23
    ∷ under_lent "2^64 - 1 five times, of none" sixteen (replicate 5 18446744073709551615) [] 23 23
    ∷ under_lent "2^32 and 2, of 2 bytes" sixteen (4294967296 ∷ 2 ∷ []) (77 ∷ 109 ∷ []) 23 23
    ∷ under_lent "23 before all items" [] (1 ∷ []) [] 23 23
    ∷ []

-- the edition that the site names
unfoldable pub named : String → ℕ → List ℕ → List ℕ → List ℕ → ℕ → Check
named name edition new lengths history told = record { name = name; holds = eqb (plain_verdict edition new lengths history) told }

unfoldable pub editions : List Check
editions =
    named "111" 111 (made 1 14 1 0) [] [] 0
    ∷ named "136" 136 (made 1 14 1 0) [] [] 5
    ∷ named "none" 0 sixteen [] [] 15
    ∷ named "110" 110 sixteen [] [] 15
    ∷ named "112" 112 sixteen [] [] 15
    ∷ named "135" 135 sixteen [] [] 15
    ∷ named "137" 137 sixteen [] [] 15
    ∷ named "111 and 2^32" 4294967407 sixteen [] [] 15
    ∷ named "136 and 2^32" 4294967432 sixteen [] [] 15
    ∷ named "2^64 - 1" 18446744073709551615 sixteen [] [] 15
    ∷ named "15 before the items" 137 [] [] [] 15
    ∷ named "15 before history" 137 sixteen (16 ∷ []) sixteen 15
    ∷ named "23 before 15" 137 sixteen (1 ∷ []) [] 23
    ∷ named "six lengths before 15" 0 sixteen (replicate 6 0) [] 23
    ∷ []
