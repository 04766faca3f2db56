-- Numbers in the fewest bytes, after LEB128, and pieces of bytes with their length before them.
use Rattle.std.specs.Prelude.{ℕ, zero, suc, ◌+◌, ◌*◌, ◌/◌, ◌%◌, [], ◌∷◌, ◌++◌, length, nat_lt, if◌then◌else◌}
use Rattle.vx_dtype.specs.Types.{Bytes}

-- a number with so many bytes at most after the first: seven bits per byte, the least first, the high bit set on all bytes but the last
abbrev pub sevens : ℕ → ℕ → Bytes
sevens zero n = n ∷ []
sevens (suc more) n = if nat_lt n 128 then n ∷ [] else (n % 128 + 128) ∷ sevens more (n / 128)

-- the numbers that have a spelling with so many bytes at most after the first are below this
abbrev pub bound : ℕ → ℕ
bound zero = 16
bound (suc more) = 128 * bound more

-- the one spelling of a number below 2 ^ 32
unfoldable pub number_bytes : ℕ → Bytes
number_bytes n = sevens 4 n

-- how many bytes there are, and these bytes
abbrev pub piece_bytes : Bytes → Bytes
piece_bytes bytes = number_bytes (length bytes) ++ bytes
