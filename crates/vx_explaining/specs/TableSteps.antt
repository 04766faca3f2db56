-- What the steps over a file and over the files of a folder answer.
use Rattle.std.specs.Prelude.{◌≡◌, ◌⊎◌, ℕ, Some}
use Rattle.std.specs.String.{string_bytes}
use Rattle.vx_dtype.specs.Types.{Bytes}
use Rattle.vx_files.specs.declared.errors.OpenError.{OpenError}
use Rattle.vx_files.specs.declared.errors.OpenError.TheVariants as opens
use Rattle.vx_file_open.specs.declared.errors.FileError.{FileError}
use Rattle.vx_file_open.specs.declared.errors.FileError.TheVariants as files
use Rattle.vx_folder.specs.FolderTexts.{error_text}
use Rattle.vx_folder.specs.declared.errors.FolderError.{FolderError}
use Rattle.vx_folder.specs.declared.errors.FolderError.TheVariants as folders
use Rattle.vx_laws_explaining.specs.Explaining.{error_line, unopened_line}
use Rattle.vx_explaining.specs.Refusals.{refusal_line, refusal_status}
use Rattle.vx_explaining.specs.declared.errors.Refusal.{Refusal}
use Rattle.vx_explaining.specs.declared.errors.Refusal.TheVariants as refusals

-- the refusal of a path that isn't opened
abbrev pub IsUnopened : Bytes → OpenError → Refusal → Type 0
IsUnopened path error refusals.NoMemory = Unit {0}
IsUnopened path opens.NotOpened (refusals.NotOpened line) = string_bytes line ≡ unopened_line path
IsUnopened path error _ = ⊥

-- a refusal of this status tells this text, or there was no memory for its line
abbrev pub TellsText : ℕ → Bytes → Refusal → Type 0
TellsText status text refusal =
    (refusal ≡ refusals.NoMemory) ⊎ ((refusal_status refusal ≡ status) × (refusal_line refusal ≡ Some (error_line text)))

-- the refusal of a folder by the error of one of its files, of which this text is told
abbrev pub IsFileRefusal : FileError → Bytes → Refusal → Type 0
IsFileRefusal files.NoMemory text refusal = refusal ≡ refusals.NoMemory
IsFileRefusal files.ReadFault text refusal = refusal ≡ refusals.Unread
IsFileRefusal _ text refusal = TellsText 3 text refusal

-- the refusal of a folder whose files are no table
abbrev pub IsFolderRefusal : FolderError → Refusal → Type 0
IsFolderRefusal folders.NoMemory refusal = refusal ≡ refusals.NoMemory
IsFolderRefusal folders.ReadFault refusal = refusal ≡ refusals.Unread
IsFolderRefusal folders.NotListed refusal = refusal ≡ refusals.Unlisted
IsFolderRefusal (folders.NotOpened name) refusal = TellsText 6 (error_text (folders.NotOpened name)) refusal
IsFolderRefusal (folders.NoBlockFile name error) refusal = IsFileRefusal error (error_text (folders.NoBlockFile name error)) refusal
IsFolderRefusal error refusal = TellsText 3 (error_text error) refusal
