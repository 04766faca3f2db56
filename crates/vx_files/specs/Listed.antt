-- What stands in folders, and what is listed of them.
use Rattle.std.specs.Prelude.{◌≡◌, List}
use Rattle.vx_dtype.specs.Types.{Bytes}

-- what stands in a folder: nothing that is known, no folder that can be listed, or things of these names
pub data Listed : Type 0 where
  unlisted : Listed
  no_folder : Listed
  names : List Bytes → Listed

-- the names that are listed are those of what stands in the folder, where these are known
abbrev pub IsListedAs : Listed → List Bytes → Type 0
IsListedAs unlisted listed = Unit {0}
IsListedAs no_folder listed = ⊥
IsListedAs (names standing) listed = listed ≡ standing

-- a folder that can't be listed
abbrev pub CannotList : Listed → Type 0
CannotList (names standing) = ⊥
CannotList _ = Unit {0}
