-- Files that are kept in a folder of their own: what paths lead to then, and what is answered.
use Rattle.std.specs.Prelude.{◌≡◌, ℕ, ◌≤◌, nat_eq, Bool, false, cond, List, [], ◌∷◌, ◌++◌, length, drop, codes, Option, Some, None, Result, Ok, Err}
use Rattle.std.specs.List.{starts_with, ends_with}
use Rattle.std.specs.Str.{bytes_eq}
use Rattle.std.specs.String.{string_bytes}
use Rattle.vx_dtype.specs.Types.{Bytes}
use Rattle.vx_io.specs.Counts.{one_more}
use Rattle.vx_files.specs.Kept.{Kept, unknown, kept_as, MayStand, MayBeFree}
use Rattle.vx_files.specs.Keeping.{KeepsNothing}
use Rattle.vx_files.specs.declared.errors.KeepError.{KeepError}
use Rattle.vx_files.specs.declared.errors.KeepError.TheVariants.{NoMemory, Exists, NotKept}
use Rattle.vx_files.specs.declared.files.NamedBytes.{NamedBytes}

-- whether a path is that of a folder: it ends in `/`
abbrev pub is_folder : Bytes → Bool
is_folder path = ends_with nat_eq path (codes "/")

-- whether a path leads below a folder: it begins with the folder's
abbrev pub is_below : Bytes → Bytes → Bool
is_below folder path = starts_with nat_eq path folder

-- a file of a folder: its name there, and its bytes
pub record NamedFile : Type 0 where
  pub name : Bytes
  pub bytes : Bytes

abbrev pub named_view : NamedBytes → NamedFile
named_view file = record { name = string_bytes file.name; bytes = file.bytes.items }

-- the bytes of the first of files that has a name
abbrev pub bytes_named : List NamedFile → Bytes → Option Bytes
bytes_named [] name = None
bytes_named (file ∷ files) name = cond (bytes_eq file.name name) (Some file.bytes) (bytes_named files name)

-- what a path leads to once these bytes are found for it, where it is told what paths lead to
abbrev pub found_over : Option Bytes → Kept → Kept
found_over found unknown = unknown
found_over found _ = kept_as found

-- what a path leads to once files are kept in a folder: below it to the file of that name, and to nothing where none has it
abbrev pub kept_with_files : Bytes → List NamedFile → (Bytes → Kept) → Bytes → Kept
kept_with_files folder files kept other =
    cond (is_below folder other) (found_over (bytes_named files (drop (length folder) other)) (kept other)) (kept other)

-- the files are kept in the folder, where nothing stood there or it was to be replaced, and nothing else changed
pub record IsFolderKept (folder : Bytes) (files : List NamedFile) (replaces : Bool) (before after : Bytes → Kept) : Type 0 where
  pub keeps : (other : Bytes) → after other ≡ kept_with_files folder files before other
  pub free : replaces ≡ false → (name : Bytes) → MayBeFree (before (folder ++ name))

-- something may stand in the folder
abbrev pub MayStandIn : Bytes → (Bytes → Kept) → Type 0
MayStandIn folder kept = (name : Bytes) × MayStand (kept (folder ++ name))

-- the answer, with the faults before and after
abbrev pub AnswersKeepFolder : Bytes → List NamedFile → Bool → (Bytes → Kept) → (Bytes → Kept) → ℕ → ℕ → Result (Unit {0}) KeepError → Type 0
AnswersKeepFolder folder files replaces before after faults now (Ok done) = IsFolderKept folder files replaces before after × (now ≡ faults)
AnswersKeepFolder folder files replaces before after faults now (Err NoMemory) = KeepsNothing before after × (now ≡ faults)
AnswersKeepFolder folder files replaces before after faults now (Err Exists) =
    (replaces ≡ false) × MayStandIn folder before × KeepsNothing before after × (now ≡ faults)
AnswersKeepFolder folder files replaces before after faults now (Err NotKept) = KeepsNothing before after × (one_more faults ≤ now)
