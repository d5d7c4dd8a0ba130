-- Numbers in bytes (document 01, "One unit"; 003, 3.1). Assumes nothing.
use Rattle.std.specs.Prelude.{ℕ, zero, suc, ◌+◌, ◌*◌, ◌%◌, Bool, List, ltb, get_or}
use Rattle.ground.specs.Choice.{all}

-- Integers are little-endian: the number in the n bytes from `at` on (a byte beyond the end counts as 0)
unfoldable pub field : ℕ → ℕ → List ℕ → ℕ
field at zero s = 0
field at (suc n) s = get_or s at 0 + 256 * field (at + 1) n s

-- how many numbers 4 bytes hold, and the bias of a price
abbrev pub word32 : ℕ
word32 = 4294967296

abbrev pub bias : ℕ
bias = 2147483648

-- "price + 2,147,483,648", where the price is signed: of the 4 bytes read as an unsigned number, the sum modulo 4,294,967,296
unfoldable pub biased : ℕ → ℕ
biased raw = (raw + bias) % word32

-- a list of bytes
abbrev pub bytes_only : List ℕ → Bool
bytes_only s = all (λ b. ltb b 256) s
