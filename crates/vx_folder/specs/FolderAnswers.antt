-- What opening a folder answers.
use Rattle.std.specs.Prelude.{◌≡◌, ◌&&◌, ℕ, List, ◌∷◌, map, length, Option, Some, None, Result, Ok, Err}
use Rattle.std.specs.List.{AllByRecursion, list_any, slice_get}
use Rattle.std.specs.Str.{bytes_eq}
use Rattle.std.specs.String.{string_bytes}
use Rattle.vx_dtype.specs.Types.{Bytes}
use Rattle.vx_semantics.specs.Tables.{ZoneStat, Zones}
use Rattle.vx_laws_stats.specs.BuiltLaws.{path_and_stat}
use Rattle.vx_zones.specs.Zoning.{broken_rule}
use Rattle.vx_laws_file.specs.FileForms.{Header, FileContent}
use Rattle.vx_laws_file.specs.FileLaws.{AreBytes}
use Rattle.vx_laws_file.specs.Opening.{FileRefusal, IsRefusedFile}
use Rattle.vx_file_open.specs.Layouts.{WhereBytes, IsFileWith}
use Rattle.vx_file_open.specs.OpenAnswers.{refusal_of}
use Rattle.vx_laws_shell.specs.Paths.{Listed, WhereEachKept, CannotList}
use Rattle.vx_laws_shell.specs.FolderContents.{is_file_name, contents_joined, AreOpened, AreAlike, HoldTogether}
use Rattle.vx_laws_shell.specs.Paths.{Kept, WhereKept, CannotOpen}
use Rattle.vx_laws_shell.specs.FolderContents.{no_file, unopened_file, no_block_file, unlike_file, too_many_blocks, kept_in, IsFolderFault}
use Rattle.vx_laws_shell.specs.Folders.{zones_before}
use Rattle.vx_laws_shell.specs.Paths.{Paths}
use Rattle.vx_laws_shell.specs.FolderContents.{WhereFiles}
use Rattle.vx_folder.specs.FolderStates.{FolderState}
use Rattle.vx_folder.specs.FolderParts.{HaveBegins}
use Rattle.vx_folder.specs.FolderTables.{Ascend}
use Rattle.vx_folder.specs.declared.errors.FolderError.{FolderError}
use Rattle.vx_folder.specs.declared.errors.FolderError.TheVariants as errors
use Rattle.vx_folder.specs.declared.errors.FileFault.{FileFault}
use Rattle.vx_folder.specs.declared.errors.FileFault.TheVariants as faults
use Rattle.vx_folder.specs.declared.gathering.GrowingStat.{GrowingStat}
use Rattle.vx_folder.specs.declared.gathering.Gathered.{Gathered}

-- ---- what is opened

-- files hold this together
pub record HoldsFiles (content : Option FileContent) (files : List Bytes) : Type 0 where
  pub first : FileContent
  pub contents : List FileContent
  pub together : HoldTogether files first contents
  pub content_is : content ≡ Some (contents_joined first contents)

-- the folder holds what the block files in the folder of a path hold together, where it is known what stands there and what each of them is
abbrev pub OpensFolder : Paths → Bytes → FolderState → Type 0
OpensFolder paths path s = WhereFiles paths path (λ names. WhereEachKept (kept_in paths.kept path names) (HoldsFiles s.content))

-- ---- why it isn't

-- bytes are no block file by the reason that an error tells
abbrev pub TellsRefusal : Option FileRefusal → (FileRefusal → Type 0) → Type 0
TellsRefusal None P = ⊥
TellsRefusal (Some r) P = P r

-- files of these names aren't opened together for the reason that an error tells
abbrev pub AreRefused : (Bytes → Kept) → Bytes → List Bytes → FolderError → Type 0
AreRefused kept folder names errors.NoMemory = Unit {0}
AreRefused kept folder names errors.ReadFault = Unit {0}
AreRefused kept folder names errors.NotListed = ⊥
AreRefused kept folder names errors.NoFile = IsFolderFault kept folder names no_file
AreRefused kept folder names (errors.NotOpened name) = IsFolderFault kept folder names (unopened_file (string_bytes name))
AreRefused kept folder names (errors.NoBlockFile name error) =
    TellsRefusal (refusal_of error) (λ r. IsFolderFault kept folder names (no_block_file (string_bytes name) r))
AreRefused kept folder names (errors.Unlike name) = IsFolderFault kept folder names (unlike_file (string_bytes name))
AreRefused kept folder names errors.TooManyBlocks = IsFolderFault kept folder names too_many_blocks

-- the folder of a path isn't opened for this reason: it can't be listed; or for one of its block files, where it is known what stands there. Of want of memory
-- and of a read that failed nothing is told
abbrev pub IsRefusedFolder : Paths → Bytes → FolderError → Type 0
IsRefusedFolder paths path errors.NoMemory = Unit {0}
IsRefusedFolder paths path errors.ReadFault = Unit {0}
IsRefusedFolder paths path errors.NotListed = CannotList (paths.listed path)
IsRefusedFolder paths path error = WhereFiles paths path (λ names. AreRefused paths.kept path names error)

-- For the checker: no public clause cites what follows.

-- a file that a path leads to isn't opened for this reason
abbrev pub IsFileFault : Kept → FileFault → Type 0
IsFileFault kept faults.NoMemory = Unit {0}
IsFileFault kept faults.ReadFault = Unit {0}
IsFileFault kept faults.NotOpened = CannotOpen kept
IsFileFault kept (faults.NoBlockFile error) = TellsRefusal (refusal_of error) (λ r. WhereKept kept (λ bytes. IsRefusedFile bytes r))

-- nor the file that a source of these bytes holds
abbrev pub IsPartFault : Option Bytes → FileFault → Type 0
IsPartFault told faults.NoMemory = Unit {0}
IsPartFault told faults.ReadFault = Unit {0}
IsPartFault told faults.NotOpened = ⊥
IsPartFault told (faults.NoBlockFile error) = TellsRefusal (refusal_of error) (λ r. WhereBytes told (λ bytes. IsRefusedFile bytes r))

-- the names in a folder aren't told for this reason
abbrev pub IsUnlisted : Listed → FolderError → Type 0
IsUnlisted there errors.NoMemory = Unit {0}
IsUnlisted there errors.NotListed = CannotList there
IsUnlisted there _ = ⊥

-- names are those of the block files among the things that are listed
abbrev pub AreFilesAmong : List Bytes → List Bytes → Type 0
AreFilesAmong listed names = (name : Bytes) → list_any (bytes_eq name) names ≡ (is_file_name name && list_any (bytes_eq name) listed)

-- the header of the file of a name, whose path leads to this, isn't read for this reason
abbrev pub IsHeaderFault : Kept → Bytes → FolderError → Type 0
IsHeaderFault kept name errors.NoMemory = Unit {0}
IsHeaderFault kept name errors.ReadFault = Unit {0}
IsHeaderFault kept name (errors.NotOpened told) = (string_bytes told ≡ name) × CannotOpen kept
IsHeaderFault kept name (errors.NoBlockFile told error) =
    (string_bytes told ≡ name) × TellsRefusal (refusal_of error) (λ r. WhereKept kept (λ bytes. IsRefusedFile bytes r))
IsHeaderFault kept name _ = ⊥

-- ---- files so far

-- a statistic that grows, and the statistics of the files so far as one
abbrev pub growing_view : GrowingStat → ZoneStat
growing_view z = record { path = z.path; stat = z.stat; values = z.values.items }

abbrev pub gathered_zones : Gathered → Zones
gathered_zones g = record { columns = g.columns; lengths = g.lengths.items; stats = map growing_view g.stats.items }

-- zones are of one form: they have the same columns, and statistics of the same paths and kinds
pub record AreOfForm (form zones : Zones) : Type 0 where
  pub columns : zones.columns ≡ form.columns
  pub stats : map path_and_stat zones.stats ≡ map path_and_stat form.stats

-- the statistics of so many files, which break no rule; the blocks of each have their place, those of the first before all others
pub record IsLawful (g : Gathered) (files : ℕ) : Type 0 where
  pub rules : broken_rule (gathered_zones g) ≡ None
  pub paired : length g.begins.items ≡ files
  pub front : slice_get g.begins.items 0 ≡ Some 0
  pub ascend : Ascend 0 g.begins.items (length g.lengths.items)

-- a file whose path leads to this was put behind those before it, whose statistics are these: it is alike, and its statistics stand behind them
pub record IsNext (kept : Kept) (before after : Zones) : Type 0 where
  pub header : Header
  pub file : WhereKept kept (IsFileWith header)
  pub alike : AreOfForm before header.zones
  pub after_is : after ≡ zones_before before header.zones

-- a file isn't alike
pub record IsUnlike (kept : Kept) (before : Zones) : Type 0 where
  pub header : Header
  pub file : WhereKept kept (IsFileWith header)
  pub unlike : ¬ (AreOfForm before header.zones)

-- what is answered where the file of a name is to be put behind those before it
abbrev pub GathersNext : Kept → Bytes → Zones → Zones → Result (Unit {0}) FolderError → Type 0
GathersNext kept name before after (Ok done) = IsNext kept before after
GathersNext kept name before after (Err (errors.Unlike told)) = (string_bytes told ≡ name) × IsUnlike kept before
GathersNext kept name before after (Err error) = IsHeaderFault kept name error

-- files hold together what has these statistics, and the blocks of each begin there
pub record AreGathered (zones : Zones) (begins : List ℕ) (files : List Bytes) : Type 0 where
  pub first : FileContent
  pub contents : List FileContent
  pub are_bytes : AllByRecursion AreBytes files
  pub opened : AreOpened files (first ∷ contents)
  pub alike : AreAlike first contents
  pub zones_are : (contents_joined first contents).zones ≡ zones
  pub placed : HaveBegins (first ∷ contents) 0 begins
