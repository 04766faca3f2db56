-- What paths lead to: a file, and what stands in a folder.
use Rattle.std.specs.Prelude.{List, [], ◌∷◌}
use Rattle.vx_dtype.specs.Types.{Bytes}

-- what a path leads to: nothing that is known, no file that can be opened, or one of these bytes
pub data Kept : Type 0 where
  unknown : Kept
  absent : Kept
  holds : Bytes → Kept

-- what holds of the bytes of a file that is opened, as far as they are known
abbrev pub WhereKept : Kept → (Bytes → Type 0) → Type 0
WhereKept unknown P = Unit {0}
WhereKept absent P = ⊥
WhereKept (holds bytes) P = P bytes

-- a path that can't be opened
abbrev pub CannotOpen : Kept → Type 0
CannotOpen (holds bytes) = ⊥
CannotOpen _ = Unit {0}

-- what stands in a folder: nothing that is known, no folder that can be listed, or things of these names
pub data Listed : Type 0 where
  unlisted : Listed
  no_folder : Listed
  lists : List Bytes → Listed

-- the files that can be opened: what each path leads to, and what stands in each folder
pub record Paths : Type 0 where
  pub kept : Bytes → Kept
  pub listed : Bytes → Listed

-- what holds of the bytes of files that are opened, one after another, where they are all known
abbrev pub WhereEachKept : List Kept → (List Bytes → Type 0) → Type 0
WhereEachKept [] P = P []
WhereEachKept (unknown ∷ kept) P = Unit {0}
WhereEachKept (absent ∷ kept) P = ⊥
WhereEachKept (holds bytes ∷ kept) P = WhereEachKept kept (λ files. P (bytes ∷ files))

-- what holds of the names in a folder that is listed, as far as they are known
abbrev pub WhereListed : Listed → (List Bytes → Type 0) → Type 0
WhereListed unlisted P = Unit {0}
WhereListed no_folder P = ⊥
WhereListed (lists names) P = P names

-- a folder that can't be listed
abbrev pub CannotList : Listed → Type 0
CannotList (lists names) = ⊥
CannotList _ = Unit {0}
