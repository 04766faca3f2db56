-- What is known of the ends of a program: bytes to come and bytes written, where they are told, and faults that are counted.
use Rattle.std.specs.Prelude.{◌≡◌, ℕ, ◌<◌, ◌≤◌, List, [], ◌++◌, length, take, drop, Option, Some, None, Result, Ok, Err, IsErr}
use Rattle.vx_io.specs.Counts.{one_more}

-- the count did not fall, and the call failed only where it rose; a count at its last value counts as risen
pub record HasCause {T E : Type 0} (before now : ℕ) (result : Result T E) : Type 0 where
  pub later : before ≤ now
  pub risen : IsErr result → one_more before ≤ now

-- a read into a buffer: what it took are the first bytes to come, the rest is to come; nothing is taken into a buffer that is not empty only at the
-- end; a failed read took nothing
abbrev pub ReadsFrom : {E : Type 0} → Option (List ℕ) → Option (List ℕ) → List ℕ → Result ℕ E → Type 0
ReadsFrom None after into result = after ≡ None
ReadsFrom (Some bytes) after into (Ok n) =
    (n ≤ length bytes) × (take n into ≡ take n bytes) × (after ≡ Some (drop n bytes)) × (0 < length into → n ≡ 0 → bytes ≡ [])
ReadsFrom (Some bytes) after into (Err e) = after ≡ Some bytes

-- a write of a piece: its first bytes were added to what was written; a failed write added nothing
abbrev pub WritesTo : {E : Type 0} → Option (List ℕ) → Option (List ℕ) → List ℕ → Result ℕ E → Type 0
WritesTo None after piece result = after ≡ None
WritesTo (Some bytes) after piece (Ok n) = after ≡ Some (bytes ++ take n piece)
WritesTo (Some bytes) after piece (Err e) = after ≡ Some bytes

-- the bytes that were taken so far are the first ones, and the rest is to come
abbrev pub TookFirst : Option (List ℕ) → Option (List ℕ) → List ℕ → Type 0
TookFirst None after bytes = after ≡ None
TookFirst (Some all) after bytes = (length bytes ≤ length all) × (bytes ≡ take (length bytes) all) × (after ≡ Some (drop (length bytes) all))

-- at most so many bytes were taken, and fewer only where there are no more
abbrev pub TookUpTo : ℕ → Option (List ℕ) → Option (List ℕ) → List ℕ → Type 0
TookUpTo most None after bytes = after ≡ None
TookUpTo most (Some all) after bytes = (bytes ≡ take most all) × (after ≡ Some (drop most all))

-- a first part of what was to come was taken, at most so many bytes, and the rest is to come
abbrev pub TookPart : ℕ → Option (List ℕ) → Option (List ℕ) → Type 0
TookPart most None after = after ≡ None
TookPart most (Some all) after = (n : ℕ) × (n ≤ most) × (n ≤ length all) × (after ≡ Some (drop n all))

-- the bytes were added to what was written
abbrev pub Added : Option (List ℕ) → Option (List ℕ) → List ℕ → Type 0
Added None after bytes = after ≡ None
Added (Some old) after bytes = after ≡ Some (old ++ bytes)

-- the first bytes of a text were added, perhaps none
abbrev pub AddedPrefix : Option (List ℕ) → Option (List ℕ) → List ℕ → Type 0
AddedPrefix before after bytes = (n : ℕ) × (n ≤ length bytes) × Added before after (take n bytes)
