-- Which names stand once among some.
use Rattle.std.specs.Prelude.{◌≡◌, ℕ, zero, suc, Bool, true, false, List, length, Option, Some, None}
use Rattle.std.specs.BTreeMap.{BTreeMap, get}
use Rattle.std.specs.Cmp.Lexicographic.{slice_cmp}
use Rattle.std.specs.List.{filter}
use Rattle.std.specs.Ordering.{nat_cmp}
use Rattle.std.specs.Str.{bytes_eq}
use Rattle.vx_dtype.specs.Types.{Bytes}

-- what is noted of a name that stands so often: whether that is once, and nothing where it does not stand at all
abbrev pub noted_of : ℕ → Option Bool
noted_of zero = None
noted_of (suc zero) = Some true
noted_of (suc (suc n)) = Some false

-- of each name, whether it stands once among these
abbrev pub standing : List Bytes → Bytes → Option Bool
standing names n = noted_of (length (filter (bytes_eq n) names))

-- a map has of each name whether it stands once among these
abbrev pub NotesStanding : List Bytes → BTreeMap Bytes Bool → Type 0
NotesStanding names noted = (n : Bytes) → get (slice_cmp nat_cmp) noted n ≡ standing names n

-- whether it is noted that a name stands once
abbrev pub is_once : Option Bool → Bool
is_once None = false
is_once (Some once) = once
