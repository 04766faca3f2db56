-- Bitmaps of the columnar format of Apache Arrow: a bit for each place, eight a byte, the least bit first.
use Rattle.std.specs.Prelude.{ℕ, ◌+◌, ◌*◌, ◌/◌, ◌%◌, Bool, List, [], ◌∷◌, length, map, take, drop, slice_index}
use Rattle.std.specs.Int.{from_bool}
use Rattle.std.specs.List.{range_with_len}
use Rattle.vx_dtype.specs.Types.{Bytes}
use Rattle.vx_words.specs.Words.{word_bit}

-- how many bytes the bits of so many places take
abbrev pub bytes_for : ℕ → ℕ
bytes_for n = (n + 7) / 8

-- the bit at a place: bit i % 8 of byte i / 8, counted from the least; 0 past the last byte
abbrev pub bit_at : Bytes → ℕ → Bool
bit_at bitmap i = word_bit (slice_index bitmap (i / 8)) (i % 8)

-- the number whose bits are these truths, the first in the least bit
abbrev pub byte_of : List Bool → ℕ
byte_of [] = 0
byte_of (flag ∷ flags) = from_bool flag + 2 * byte_of flags

-- the byte at a place of the bitmap of truths: eight of them, or as many as are left
abbrev pub byte_at : List Bool → ℕ → ℕ
byte_at flags k = byte_of (take 8 (drop (8 * k) flags))

-- the bitmap of truths; its bits behind the last truth are 0
abbrev pub bitmap_of : List Bool → Bytes
bitmap_of flags = map (byte_at flags) (range_with_len 0 (bytes_for (length flags)))
