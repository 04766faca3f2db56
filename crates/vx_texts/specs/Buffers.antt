-- Texts that stand one behind the other in one buffer, and the offsets at which they begin and end.
use Rattle.std.specs.Prelude.{◌≡◌, ℕ, ◌+◌, ◌-◌, ◌^◌, ◌<◌, ◌≤◌, List, length, map, slice_index, slice_range}
use Rattle.std.specs.List.{range_with_len}
use Rattle.std.specs.Str.{IsCharBoundary}
use Rattle.vx_dtype.specs.Types.{Bytes}

-- the bytes between the offset at a place and the next one
abbrev pub text_between : Bytes → List ℕ → ℕ → Bytes
text_between bytes offsets i = slice_range bytes (slice_index offsets i) (slice_index offsets (i + 1))

-- the texts of a buffer: one less than there are offsets
abbrev pub cut_texts : Bytes → List ℕ → List Bytes
cut_texts bytes offsets = map (text_between bytes offsets) (range_with_len 0 (length offsets - 1))

-- the first offset is 0 and the last the buffer's length, which is below 2^32; none is less than the one before it, and a character begins at each
pub record AreOffsets (bytes : Bytes) (offsets : List ℕ) : Type 0 where
  pub some : 0 < length offsets
  pub first : slice_index offsets 0 ≡ 0
  pub last : slice_index offsets (length offsets - 1) ≡ length bytes
  pub few : length bytes < 2 ^ 32
  pub rising : (i : ℕ) → i + 1 < length offsets → slice_index offsets i ≤ slice_index offsets (i + 1)
  pub cuts : (i : ℕ) → i < length offsets → IsCharBoundary bytes (slice_index offsets i)
