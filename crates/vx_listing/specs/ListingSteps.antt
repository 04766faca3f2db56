-- What the steps of a run answer: the lines that are written, and the file that is listed.
use Rattle.std.specs.Prelude.{◌≡◌, ◌⊎◌, ℕ, ◌≤◌, List, ◌++◌, codes, Option, Some, None, Result, Ok, Err}
use Rattle.vx_dtype.specs.Types.{Bytes}
use Rattle.vx_semantics.specs.Tables.{Zones}
use Rattle.vx_io.specs.Counts.{one_more}
use Rattle.vx_io.specs.Ends.{Added, AddedPrefix}
use Rattle.vx_laws_file.specs.Opening.{FileRefusal, bad_magic, bad_header, bad_zones, bad_end, IsRefusedFile}
use Rattle.vx_file_open.specs.Layouts.{WhereBytes}
use Rattle.vx_file_open.specs.declared.errors.FileError.{FileError}
use Rattle.vx_file_open.specs.declared.errors.FileError.TheVariants as files
use Rattle.vx_folder.specs.FolderTexts.{error_text}
use Rattle.vx_folder.specs.declared.errors.FolderError.{FolderError}
use Rattle.vx_folder.specs.declared.errors.FolderError.TheVariants as folders
use Rattle.vx_laws_shell.specs.Origins.{Origin, standard_input, block_file, folder}
use Rattle.vx_laws_shell.specs.Paths.{Paths}
use Rattle.vx_laws_shell.specs.Running.{End}
use Rattle.vx_laws_listing.specs.Listing.{ListingEnd, AreSoundZones, AreZonesOfFile, IsPathEnd, IsFolderEnd}
use Rattle.vx_laws_listing.specs.ListingTexts.{listing_lines}
use Rattle.vx_laws_listing.specs.ListingWords.{listing_asked_of}
use Rattle.vx_listing.specs.AskedViews.{asked_view}
use Rattle.vx_listing.specs.ListingEnds.{refusal_status, refusal_line}
use Rattle.vx_listing.specs.declared.words.Asked.{Asked}
use Rattle.vx_listing.specs.declared.errors.LineError.{LineError}
use Rattle.vx_listing.specs.declared.errors.LineError.TheVariants as lines
use Rattle.vx_listing.specs.declared.errors.ListingError.{ListingError}
use Rattle.vx_listing.specs.declared.errors.ListingError.TheVariants as errors
use Rattle.vx_listing.specs.declared.errors.Refusal.{Refusal}
use Rattle.vx_listing.specs.declared.errors.Refusal.TheVariants as refusals

-- a text is written whole, or its first bytes are
abbrev pub Writes : Bytes → End → End → Result (Unit {0}) LineError → Type 0
Writes text before after (Ok done) = Added before.bytes after.bytes text
Writes text before after (Err lines.NoMemory) = AddedPrefix before.bytes after.bytes text
Writes text before after (Err lines.Unwritten) = AddedPrefix before.bytes after.bytes text × (one_more before.faults ≤ after.faults)

-- and no fault of the output is taken back
pub record WritesText (text : Bytes) (before after : End) (result : Result (Unit {0}) LineError) : Type 0 where
  pub later : before.faults ≤ after.faults
  pub writes : Writes text before after result

-- the zones of the file that a source is, as far as its bytes are told
pub record AreZonesOfSource (told : Option Bytes) (zones : Zones) : Type 0 where
  pub held : WhereBytes told (AreZonesOfFile zones)
  pub sound : AreSoundZones zones

-- a source is refused as a file: nothing is written
pub record IsRefusedSource (told : Option Bytes) (faults now : ℕ) (before after : End) (r : FileRefusal) : Type 0 where
  pub refused : WhereBytes told (λ bytes. IsRefusedFile bytes r)
  pub quiet : now ≡ faults
  pub untouched : after ≡ before

-- the file of a source is listed, or why it isn't; with the faults of the source before and now
abbrev pub ListsFile : Bytes → Option Bytes → ℕ → ℕ → End → End → Result (Unit {0}) ListingError → Type 0
ListsFile path told faults now before after (Ok done) =
    (zones : Zones) × AreZonesOfSource told zones × Added before.bytes after.bytes (listing_lines path zones) × (now ≡ faults)
ListsFile path told faults now before after (Err errors.NoMemory) =
    ((after ≡ before) ⊎ ((zones : Zones) × AreZonesOfSource told zones × AddedPrefix before.bytes after.bytes (listing_lines path zones))) × (now ≡ faults)
ListsFile path told faults now before after (Err errors.ReadFault) = (one_more faults ≤ now) × (after ≡ before)
ListsFile path told faults now before after (Err errors.BadMagic) = IsRefusedSource told faults now before after bad_magic
ListsFile path told faults now before after (Err errors.BadHeader) = IsRefusedSource told faults now before after bad_header
ListsFile path told faults now before after (Err (errors.BadZones e)) = IsRefusedSource told faults now before after (bad_zones e)
ListsFile path told faults now before after (Err errors.BadEnd) = IsRefusedSource told faults now before after bad_end
ListsFile path told faults now before after (Err errors.Unwritten) =
    (zones : Zones) × AreZonesOfSource told zones × AddedPrefix before.bytes after.bytes (listing_lines path zones)
    × (one_more before.faults ≤ after.faults) × (now ≡ faults)

-- the same of a file that was opened, whose faults no one counts any more
abbrev pub ListsOpened : Bytes → Option Bytes → End → End → Result (Unit {0}) Refusal → Type 0
ListsOpened path told before after (Ok done) = (faults : ℕ) × (now : ℕ) × ListsFile path told faults now before after (Ok done)
ListsOpened path told before after (Err (refusals.NotListed e)) = (faults : ℕ) × (now : ℕ) × ListsFile path told faults now before after (Err e)
ListsOpened path told before after (Err _) = ⊥

-- where the blocks are that words ask, or why it isn't known
abbrev pub AsksBlocks : List Bytes → Result Asked Refusal → Type 0
AsksBlocks words (Ok asked) = Some (asked_view asked) ≡ listing_asked_of words
AsksBlocks words (Err refusals.Usage) = None ≡ listing_asked_of words
AsksBlocks words (Err (refusals.NotListed errors.NoMemory)) = Unit {0}
AsksBlocks words (Err _) = ⊥

-- what is said of the end of a run that lists what was asked
abbrev pub IsBlocksEnd : Origin → Paths → End → End → ListingEnd → Type 0
IsBlocksEnd standard_input paths before after end = ⊥
IsBlocksEnd (block_file path) paths before after end = IsPathEnd path (paths.kept path) before after end
IsBlocksEnd (folder path) paths before after end = IsFolderEnd path paths before after end

-- ---- folders

-- a refusal of this status tells this text, or there was no memory for its line
abbrev pub TellsText : ℕ → Bytes → Refusal → Type 0
TellsText status text refusal =
    (refusal ≡ refusals.NotListed errors.NoMemory)
    ⊎ ((refusal_status refusal ≡ status) × (refusal_line refusal ≡ Some (codes "error: " ++ (text ++ codes "\n"))))

-- the refusal of a folder by the error of one of its files, of which this text is told
abbrev pub IsFileRefusal : FileError → Bytes → Refusal → Type 0
IsFileRefusal files.NoMemory text refusal = refusal ≡ refusals.NotListed errors.NoMemory
IsFileRefusal files.ReadFault text refusal = refusal ≡ refusals.NotListed errors.ReadFault
IsFileRefusal _ text refusal = TellsText 3 text refusal

-- the refusal of a folder whose block files are no table
abbrev pub IsFolderRefusal : FolderError → Refusal → Type 0
IsFolderRefusal folders.NoMemory refusal = refusal ≡ refusals.NotListed errors.NoMemory
IsFolderRefusal folders.ReadFault refusal = refusal ≡ refusals.NotListed errors.ReadFault
IsFolderRefusal folders.NotListed refusal = refusal ≡ refusals.NoFolder
IsFolderRefusal (folders.NotOpened name) refusal = TellsText 6 (error_text (folders.NotOpened name)) refusal
IsFolderRefusal (folders.NoBlockFile name error) refusal = IsFileRefusal error (error_text (folders.NoBlockFile name error)) refusal
IsFolderRefusal error refusal = TellsText 3 (error_text error) refusal
