-- Fields of the wire form at a place in bytes.
use Rattle.std.specs.Prelude.{◌≡◌, ◌≢◌, ℕ, ◌+◌, ◌<◌, ◌^◌, true, ◌++◌, length, drop, Option, Some, None}
use Rattle.std.specs.Str.{is_utf8}
use Rattle.vx_dtype.specs.Types.{Bytes}

-- the text stands at a place of the bytes and ends before another
pub record Stands (bytes : Bytes) (at : ℕ) (text : Bytes) (after : ℕ) : Type 0 where
  pub ends : at + length text ≡ after
  pub stands : drop at bytes ≡ text ++ drop after bytes

-- the answer is the value whose spelling stands at the place, with the place after it, or none where no spelling stands there
abbrev pub IsFieldAt : {A : Type 0} → (A → Bytes) → (A → Type 0) → Bytes → ℕ → Option (A × ℕ) → Type 0
IsFieldAt spelling HasSpelling bytes at (Some found) = HasSpelling found.0 × Stands bytes at (spelling found.0) found.1
IsFieldAt {A} spelling HasSpelling bytes at None = (value : A) (rest : Bytes) → HasSpelling value → drop at bytes ≢ spelling value ++ rest

-- a number that has a spelling: below 2 ^ 32
abbrev pub IsNumber : ℕ → Type 0
IsNumber n = n < 2 ^ 32

-- bytes whose number has a spelling
abbrev pub IsShort : Bytes → Type 0
IsShort bytes = IsNumber (length bytes)

-- a text that has a spelling: UTF-8 whose length has one
pub record IsText (text : Bytes) : Type 0 where
  pub utf8 : is_utf8 text ≡ true
  pub short : IsShort text

-- something was written behind what stood there
pub record Extends (old new : Bytes) : Type 0 where
  pub more : Bytes
  pub is : new ≡ old ++ more
