-- The files of a folder, and where the blocks of each stand among those of all.
use Rattle.std.specs.Prelude.{◌≡◌, ℕ, ◌+◌, List, [], ◌∷◌, ◌++◌, map, length, take, drop, Option, Some, None}
use Rattle.std.specs.List.{AllByRecursion, slice_get}
use Rattle.std.specs.Option.{option_and_then}
use Rattle.std.specs.Result.{result_ok}
use Rattle.std.specs.String.{string_bytes}
use Rattle.vx_dtype.specs.Types.{Bytes}
use Rattle.vx_semantics.specs.Tables.{Zones}
use Rattle.vx_laws_file.specs.FileForms.{Header, FileContent}
use Rattle.vx_laws_file.specs.FileLaws.{AreBytes}
use Rattle.vx_laws_file.specs.FileReading.{opened_of}
use Rattle.vx_files.specs.Kept as files
use Rattle.vx_file_open.specs.Layouts.{WhereBytes, IsFileWith}
use Rattle.vx_laws_shell.specs.FolderContents.{kept_in, contents_joined, HoldTogether}
use Rattle.vx_laws_shell.specs.Paths.{Kept, holds}
use Rattle.vx_folder.specs.PathViews.{kept_by}
use Rattle.vx_folder.specs.declared.parts.FolderParts.{FolderParts}
use Rattle.vx_folder.specs.FolderStates.{WhereHeld}

-- ---- what is held

-- what bytes hold as a block file
abbrev pub content_in : Bytes → Option FileContent
content_in bytes = result_ok (opened_of bytes)

-- and what the file of a path holds, where it is known
abbrev pub content_kept : Kept → Option FileContent
content_kept (holds bytes) = content_in bytes
content_kept _ = None

abbrev pub with_content : Option FileContent → Option (List FileContent) → Option (List FileContent)
with_content (Some content) (Some contents) = Some (content ∷ contents)
with_content _ _ = None

-- what files hold, where it is known of each of them
abbrev pub contents_kept : List Kept → Option (List FileContent)
contents_kept [] = Some []
contents_kept (kept ∷ others) = with_content (content_kept kept) (contents_kept others)

-- what they hold as one, where there are some
abbrev pub all_joined : List FileContent → Option FileContent
all_joined [] = None
all_joined (first ∷ contents) = Some (contents_joined first contents)

-- what the files of these names in a folder hold together, where it is known
abbrev pub held_in : (Bytes → Kept) → Bytes → List Bytes → Option FileContent
held_in kept folder names = option_and_then all_joined (contents_kept (kept_in kept folder names))

-- ---- the parts of a folder

-- the files of a folder: what paths lead to; the folder's path; the files' names, and how many blocks stand before those of each; and their statistics as one
pub record Parts : Type 0 where
  pub kept : Bytes → files.Kept
  pub folder : Bytes
  pub names : List Bytes
  pub begins : List ℕ
  pub zones : Zones

abbrev pub parts_view : {F File : Type 0} → (Bytes → files.Kept) → FolderParts F File → Parts
parts_view kept p =
    record { kept = kept; folder = string_bytes p.folder; names = map string_bytes p.names.items; begins = p.begins.items; zones = p.zones }

-- what they hold together, where it is known
abbrev pub held_of : Parts → Option FileContent
held_of parts = held_in (kept_by parts.kept) parts.folder parts.names

-- so many blocks stand before those of each file, of which so many before the first
abbrev pub HaveBegins : List FileContent → ℕ → List ℕ → Type 0
HaveBegins [] n [] = Unit {0}
HaveBegins (content ∷ contents) n (begin ∷ begins) = (begin ≡ n) × HaveBegins contents (n + length content.zones.lengths) begins
HaveBegins _ n _ = ⊥

-- files hold this together: it is known what each of them holds, and their blocks stand one after another
pub record AreOfContent (parts : Parts) (content : FileContent) : Type 0 where
  pub files : List Bytes
  pub first : FileContent
  pub contents : List FileContent
  pub are_bytes : AllByRecursion AreBytes files
  pub together : HoldTogether files first contents
  pub told : contents_kept (kept_in (kept_by parts.kept) parts.folder parts.names) ≡ Some (first ∷ contents)
  pub begins : HaveBegins (first ∷ contents) 0 parts.begins
  pub content_is : content ≡ contents_joined first contents
  pub zones : content.zones ≡ parts.zones

-- the parts of a folder: each file has its place, the first one before all others, and where it is known what they hold it is told by what paths lead to
pub record AreParts (parts : Parts) : Type 0 where
  pub front : slice_get parts.begins 0 ≡ Some 0
  pub paired : length parts.begins ≡ length parts.names
  pub held : WhereHeld (held_of parts) (AreOfContent parts)

-- zones of a file agree with those of a folder, where so many blocks stand before its own: it has the same columns, and blocks of the same lengths
pub record AgreesAt (zones : Zones) (begin : ℕ) (file : Zones) : Type 0 where
  pub columns : file.columns ≡ zones.columns
  pub lengths : take (length file.lengths) (drop begin zones.lengths) ≡ file.lengths

-- the source of a file is one of a folder's, which are counted from 0, with this header: it tells what the file's path leads to, and agrees with the folder
pub record IsFileAt (parts : Parts) (number : ℕ) (told : Option Bytes) (h : Header) : Type 0 where
  pub name : Bytes
  pub begin : ℕ
  pub named : slice_get parts.names number ≡ Some name
  pub begins : slice_get parts.begins number ≡ Some begin
  pub opened : files.IsOpenedAs (parts.kept (parts.folder ++ name)) told
  pub file : WhereBytes told (IsFileWith h)
  pub agrees : AgreesAt parts.zones begin h.zones
