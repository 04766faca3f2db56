-- What a run of the words of `blocks` is, over the files that it can open and the two ends that it writes.
use Rattle.std.specs.Prelude.{◌≡◌, ◌⊎◌, ℕ, ◌^◌, ◌<◌, ◌≤◌, true, List, ◌++◌, length, codes, Option, Some, None}
use Rattle.vx_dtype.specs.Types.{Bytes}
use Rattle.vx_semantics.specs.Tables.{Zones}
use Rattle.vx_io.specs.Counts.{one_more}
use Rattle.vx_io.specs.Ends.{Added, AddedPrefix}
use Rattle.vx_zones.specs.Zoning.{broken_rule, values_fit}
use Rattle.vx_laws_file.specs.FileForms.{FileContent}
use Rattle.vx_laws_file.specs.Opening.{IsOpened, FileRefusal, IsRefusedFile}
use Rattle.vx_laws_shell.specs.Origins.{block_file, folder}
use Rattle.vx_laws_shell.specs.Paths.{Kept, WhereKept, CannotOpen, Paths, CannotList}
use Rattle.vx_laws_shell.specs.FolderContents.{FolderFault, IsFolderFault, WhereFiles}
use Rattle.vx_laws_shell.specs.FolderLines.{misfiled_text, folder_text}
use Rattle.vx_laws_shell.specs.Running.{End, fault_status}
use Rattle.vx_folder.specs.FolderTables.{FilesTable, HasPlaces, IsTableOfFolder}
use Rattle.vx_laws_listing.specs.ListingWords.{listing_asked_of}
use Rattle.vx_laws_listing.specs.ListingTexts.{listing_lines, folder_lines}

-- how a run ends: words of no form; a path that can't be opened; a folder that can't be listed; a read of a file that failed; bytes that are no block file;
-- files of a folder that are no table; a write that failed; no memory; or the lines of the table, written whole
pub data ListingEnd : Type 0 where
  misused : ListingEnd
  unopened : ListingEnd
  unlisted : ListingEnd
  unread : ListingEnd
  misfiled : FileRefusal → ListingEnd
  mixed : FolderFault → ListingEnd
  unwritten : ListingEnd
  without_memory : ListingEnd
  listed : ListingEnd

-- the exit status of an end
abbrev pub listing_status : ListingEnd → ℕ
listing_status misused = 2
listing_status unopened = 6
listing_status unlisted = 6
listing_status unread = 6
listing_status (misfiled r) = 3
listing_status (mixed fault) = fault_status fault
listing_status unwritten = 7
listing_status without_memory = 8
listing_status listed = 0

-- why bytes are no block file, as a line
abbrev pub misfiled_line : FileRefusal → Bytes
misfiled_line r = codes "error: " ++ (misfiled_text r ++ codes "\n")

-- and why files of a folder are no table
abbrev pub mixed_line : FolderFault → Bytes
mixed_line fault = codes "error: " ++ (folder_text fault ++ codes "\n")

-- the line that an end tells on standard error; none where there is nothing to tell, and where the output isn't taken any more
abbrev pub listing_told : ListingEnd → Option Bytes
listing_told misused = Some (codes "error: usage: blocks PATH, the path of a block file or of a folder, which ends in /\n")
listing_told unopened = Some (codes "error: the path can't be opened\n")
listing_told unlisted = Some (codes "error: the folder can't be listed\n")
listing_told unread = Some (codes "error: a read failed\n")
listing_told (misfiled r) = Some (misfiled_line r)
listing_told (mixed fault) = Some (mixed_line fault)
listing_told unwritten = None
listing_told without_memory = Some (codes "error: there is no memory\n")
listing_told listed = None

-- zones that break no rule, in which each value is one of its type; there are fewer than 2 ^ 32 blocks
pub record AreSoundZones (zones : Zones) : Type 0 where
  pub few : length zones.lengths < 2 ^ 32
  pub rules : broken_rule zones ≡ None
  pub fit : values_fit zones ≡ true

-- the zones of the table that bytes hold as a block file
pub record AreZonesOfFile (zones : Zones) (bytes : Bytes) : Type 0 where
  pub content : FileContent
  pub opened : IsOpened bytes content
  pub zones_are : content.zones ≡ zones

-- the zones of the file that a path leads to, as far as it is known
pub record AreZonesOfPath (kept : Kept) (zones : Zones) : Type 0 where
  pub held : WhereKept kept (AreZonesOfFile zones)
  pub sound : AreSoundZones zones

-- the table of the block files in the folder of a path, as far as it is known
pub record IsTableOfPath (paths : Paths) (path : Bytes) (table : FilesTable) : Type 0 where
  pub held : IsTableOfFolder paths path table
  pub places : HasPlaces table
  pub sound : AreSoundZones table.zones

-- what an end says of the path of a block file that is asked, of what it leads to, and of the output
abbrev pub IsPathEnd : Bytes → Kept → End → End → ListingEnd → Type 0
IsPathEnd path kept before after misused = ⊥
IsPathEnd path kept before after unopened = CannotOpen kept × (after ≡ before)
IsPathEnd path kept before after unlisted = ⊥
IsPathEnd path kept before after unread = WhereKept kept (λ bytes. Unit {0}) × (after ≡ before)
IsPathEnd path kept before after (misfiled r) = WhereKept kept (λ bytes. IsRefusedFile bytes r) × (after ≡ before)
IsPathEnd path kept before after (mixed fault) = ⊥
IsPathEnd path kept before after unwritten =
    (zones : Zones) × AreZonesOfPath kept zones × AddedPrefix before.bytes after.bytes (listing_lines path zones) × (one_more before.faults ≤ after.faults)
IsPathEnd path kept before after without_memory =
    (after ≡ before) ⊎ ((zones : Zones) × AreZonesOfPath kept zones × AddedPrefix before.bytes after.bytes (listing_lines path zones))
IsPathEnd path kept before after listed = (zones : Zones) × AreZonesOfPath kept zones × Added before.bytes after.bytes (listing_lines path zones)

-- and of the path of a folder
abbrev pub IsFolderEnd : Bytes → Paths → End → End → ListingEnd → Type 0
IsFolderEnd path paths before after misused = ⊥
IsFolderEnd path paths before after unopened = ⊥
IsFolderEnd path paths before after unlisted = CannotList (paths.listed path) × (after ≡ before)
IsFolderEnd path paths before after unread = after ≡ before
IsFolderEnd path paths before after (misfiled r) = ⊥
IsFolderEnd path paths before after (mixed fault) = WhereFiles paths path (λ names. IsFolderFault paths.kept path names fault) × (after ≡ before)
IsFolderEnd path paths before after unwritten =
    (table : FilesTable) × IsTableOfPath paths path table × AddedPrefix before.bytes after.bytes (folder_lines path table)
    × (one_more before.faults ≤ after.faults)
IsFolderEnd path paths before after without_memory =
    (after ≡ before) ⊎ ((table : FilesTable) × IsTableOfPath paths path table × AddedPrefix before.bytes after.bytes (folder_lines path table))
IsFolderEnd path paths before after listed =
    (table : FilesTable) × IsTableOfPath paths path table × Added before.bytes after.bytes (folder_lines path table)

-- the words ask a block file or a folder, and this is said of its path
abbrev pub IsAskedEnd : List Bytes → Paths → End → End → ListingEnd → Type 0
IsAskedEnd words paths before after end =
    ((path : Bytes) × (listing_asked_of words ≡ Some (block_file path)) × IsPathEnd path (paths.kept path) before after end)
    ⊎ ((path : Bytes) × (listing_asked_of words ≡ Some (folder path)) × IsFolderEnd path paths before after end)

-- what an end says of the words, of what the paths lead to, and of the output
abbrev pub IsListingEnd : List Bytes → Paths → End → End → ListingEnd → Type 0
IsListingEnd words paths before after misused = (listing_asked_of words ≡ None) × (after ≡ before)
IsListingEnd words paths before after without_memory = (after ≡ before) ⊎ IsAskedEnd words paths before after without_memory
IsListingEnd words paths before after end = IsAskedEnd words paths before after end

-- a line was written whole; or its first bytes were, and a write failed; where there is none nothing was done
abbrev pub IsToldBy : End → End → Option Bytes → Type 0
IsToldBy before after None = after ≡ before
IsToldBy before after (Some line) =
    Added before.bytes after.bytes line ⊎ (AddedPrefix before.bytes after.bytes line × (one_more before.faults ≤ after.faults))

-- a run of the words of `blocks`: its exit status, what it wrote to the output, and what it told on standard error
pub record IsListingRun (words : List Bytes) (paths : Paths) (output_before output_after errors_before errors_after : End) (status : ℕ) : Type 0 where
  pub end : ListingEnd
  pub is : IsListingEnd words paths output_before output_after end
  pub status_is : status ≡ listing_status end
  pub told : IsToldBy errors_before errors_after (listing_told end)
