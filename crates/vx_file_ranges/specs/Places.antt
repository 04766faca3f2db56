-- What is known of a source that is read by places: its bytes, where it tells them, and what a read answers.
use Rattle.std.specs.Prelude.{◌≡◌, ℕ, ◌<◌, ◌≤◌, nat_lt, Bool, List, length, take, drop, get_or, Option, Some, None, Result, Ok, Err}

-- each is a byte
abbrev pub AreBytes : List ℕ → Type 0
AreBytes bytes = (i : ℕ) → get_or bytes i 0 < 256

-- what is told are bytes
abbrev pub TellsBytes : Option (List ℕ) → Type 0
TellsBytes None = Unit {0}
TellsBytes (Some bytes) = AreBytes bytes

-- a read at a place into a buffer: it took the bytes from there on; none into a buffer that isn't empty only at the end or past it
abbrev pub ReadsAt : {E : Type 0} → Option (List ℕ) → ℕ → List ℕ → Result ℕ E → Type 0
ReadsAt None place into result = Unit {0}
ReadsAt (Some bytes) place into (Ok n) =
    (n ≤ length (drop place bytes)) × (take n into ≡ take n (drop place bytes)) × (0 < length into → n ≡ 0 → length bytes ≤ place)
ReadsAt (Some bytes) place into (Err e) = Unit {0}

-- whether a byte stands at a place
abbrev pub HasByteAt : Option (List ℕ) → ℕ → Bool → Type 0
HasByteAt None place found = Unit {0}
HasByteAt (Some bytes) place found = found ≡ nat_lt place (length bytes)

-- the bytes from a place on, so many, or fewer where there are no more
abbrev pub piece_of : List ℕ → ℕ → ℕ → List ℕ
piece_of bytes place count = take count (drop place bytes)

-- a piece is that
abbrev pub IsPieceAt : Option (List ℕ) → ℕ → ℕ → List ℕ → Type 0
IsPieceAt None place count piece = Unit {0}
IsPieceAt (Some bytes) place count piece = piece ≡ piece_of bytes place count
