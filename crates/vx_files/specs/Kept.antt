-- What paths lead to, and what is opened of them.
use Rattle.std.specs.Prelude.{◌≡◌, ℕ, List, Option, Some, None}
use Rattle.vx_dtype.specs.Types.{Bytes}

-- what a path leads to: nothing that is known, no file that can be opened, or one of these bytes
pub data Kept : Type 0 where
  unknown : Kept
  absent : Kept
  holds : Bytes → Kept

-- the same by the bytes that are found for it
abbrev pub kept_as : Option Bytes → Kept
kept_as None = absent
kept_as (Some bytes) = holds bytes

-- the source of a file that is opened tells the bytes that the path leads to, where these are known
abbrev pub IsOpenedAs : Kept → Option (List ℕ) → Type 0
IsOpenedAs unknown told = Unit {0}
IsOpenedAs absent told = ⊥
IsOpenedAs (holds bytes) told = told ≡ Some bytes

-- a path that can't be opened
abbrev pub CannotOpen : Kept → Type 0
CannotOpen (holds bytes) = ⊥
CannotOpen _ = Unit {0}

-- something may stand under a path, and nothing may
abbrev pub MayStand : Kept → Type 0
MayStand absent = ⊥
MayStand _ = Unit {0}

abbrev pub MayBeFree : Kept → Type 0
MayBeFree (holds bytes) = ⊥
MayBeFree _ = Unit {0}
