-- The code of a security, in every message that has one (document 01, "One unit"; 003, 3.8 and 3.9). Assumes nothing.
use Rattle.std.specs.Prelude.{ℕ, Bool, ◌&&◌, List, leb}
use Rattle.wire.specs.Number.{field}

-- "SecurityCode at 4 (4 bytes)"
abbrev pub security_code : List ℕ → ℕ
security_code m = field 4 4 m

-- "code (1 to 99,999)"
unfoldable pub listed_code : ℕ → Bool
listed_code c = leb 1 c && leb c 99999
