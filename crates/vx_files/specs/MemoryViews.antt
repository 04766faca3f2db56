-- Files in memory, as what their paths lead to.
use Rattle.std.specs.Prelude.{◌≡◌, nat_eq, Bool, cond, not, ◌&&◌, Result, Ok, Err, List, [], ◌∷◌, ◌++◌, map, filter, length, take, drop, Option, Some, None}
use Rattle.std.specs.List.{list_any}
use Rattle.std.specs.Str.{bytes_eq}
use Rattle.std.specs.String.{string_bytes}
use Rattle.vx_dtype.specs.Types.{Bytes}
use Rattle.vx_files.specs.Kept.{Kept, kept_as}
use Rattle.vx_files.specs.FolderKeeping.{NamedFile, is_below}
use Rattle.vx_files.specs.Listed.{Listed, no_folder, names}
use Rattle.vx_files.specs.declared.errors.KeepError.{KeepError}
use Rattle.vx_files.specs.declared.errors.KeepError.TheVariants.{NoMemory}
use Rattle.vx_files.specs.declared.memory_files.MemoryFile.{MemoryFile}
use Rattle.vx_files.specs.declared.memory_files.MemoryFiles.{MemoryFiles}

-- a file: its path and its bytes
pub record FileSeen : Type 0 where
  pub path : Bytes
  pub bytes : Bytes

abbrev pub file_view : MemoryFile → FileSeen
file_view file = record { path = string_bytes file.path; bytes = file.bytes.items }

abbrev pub files_view : MemoryFiles → List FileSeen
files_view files = map file_view files.files.items

-- the bytes of the first file of a path
abbrev pub bytes_among : List FileSeen → Bytes → Option Bytes
bytes_among [] path = None
bytes_among (file ∷ files) path = cond (bytes_eq file.path path) (Some file.bytes) (bytes_among files path)

-- what a path leads to among files
abbrev pub kept_among : List FileSeen → Bytes → Kept
kept_among files path = kept_as (bytes_among files path)

-- whether bytes are the name of a file in a folder: they aren't empty, and have no `/`
abbrev pub is_name : Bytes → Bool
is_name name = not (nat_eq (length name) 0) && not (list_any (nat_eq 47) name)

-- the name under which the file of a path stands in a folder, whose path ends in `/`: what is left behind the folder's path
abbrev pub name_in : Bytes → Bytes → Option Bytes
name_in folder path =
    cond (bytes_eq (take (length folder) path) folder && is_name (drop (length folder) path)) (Some (drop (length folder) path)) None

abbrev pub name_before : Option Bytes → List Bytes → List Bytes
name_before None listed = listed
name_before (Some name) listed = name ∷ listed

-- the names of the files in a folder, in the order of the files
abbrev pub names_among : List FileSeen → Bytes → List Bytes
names_among [] folder = []
names_among (file ∷ files) folder = name_before (name_in folder file.path) (names_among files folder)

abbrev pub listed_as : List Bytes → Listed
listed_as [] = no_folder
listed_as (name ∷ listed) = names (name ∷ listed)

-- what stands in a folder among files: there is one where there is a file in it
abbrev pub listed_among : List FileSeen → Bytes → Listed
listed_among files folder = listed_as (names_among files folder)

-- the file of a path and bytes, or want of memory
abbrev pub IsFileOf : Bytes → Bytes → Result MemoryFile KeepError → Type 0
IsFileOf path bytes (Ok file) = file_view file ≡ record { path = path; bytes = bytes }
IsFileOf path bytes (Err error) = error ≡ NoMemory

-- a file of a folder under its path
abbrev pub file_in : Bytes → NamedFile → FileSeen
file_in folder file = record { path = folder ++ file.name; bytes = file.bytes }

-- the files that aren't below a folder
abbrev pub files_out_of : Bytes → List MemoryFile → List MemoryFile
files_out_of folder files = filter (λ file. not (is_below folder (string_bytes file.path))) files
