-- What is answered of the block files of a folder.
use Rattle.std.proofs.Common.{◌≡◌, refl, sym, subst, inl, inr, Ok, Err}
use Rattle.std.specs.String.{string_bytes}
use Rattle.vx_dtype.specs.Types.{Bytes}
use Rattle.vx_file_open.specs.declared.errors.FileError.TheVariants as files
use Rattle.vx_folder.specs.FolderAnswers.{IsRefusedFolder}
use Rattle.vx_folder.specs.FolderTables.{FilesTable}
use Rattle.vx_folder.specs.declared.errors.FolderError.{FolderError}
use Rattle.vx_folder.specs.declared.errors.FolderError.TheVariants as folders
use Rattle.vx_laws_file.specs.Opening.{bad_magic, bad_header, bad_zones, bad_end}
use Rattle.vx_laws_shell.specs.FolderContents.{FolderFault, no_file, unopened_file, no_block_file, unlike_file, too_many_blocks, IsFolderFault, WhereFiles}
use Rattle.vx_laws_shell.specs.FolderLines.{folder_text}
use Rattle.vx_laws_shell.specs.Paths.{Paths}
use Rattle.vx_laws_shell.specs.Running.{End, fault_status}
use Rattle.vx_laws_listing.specs.Listing as ends
use Rattle.vx_laws_listing.specs.Listing.{IsFolderEnd, IsTableOfPath}
use Rattle.vx_laws_listing.specs.ListingTexts.{folder_lines}
use Rattle.vx_listing.specs.ListingEnds.{Ends, line_error}
use Rattle.vx_listing.specs.ListingSteps.{IsFolderRefusal, TellsText, WritesText}
use Rattle.vx_listing.specs.declared.errors.LineError.{LineError}
use Rattle.vx_listing.specs.declared.errors.LineError.TheVariants as lines
use Rattle.vx_listing.specs.declared.errors.ListingError.TheVariants as errors
use Rattle.vx_listing.specs.declared.errors.Refusal.{Refusal}
use Rattle.vx_listing.specs.declared.errors.Refusal.TheVariants as refusals

-- a table whose lines are written whole, or aren't
module _ (path : Bytes) (paths : Paths) (before after : End) (table : FilesTable) (is : IsTableOfPath paths path table) where
  pub folder_listed : WritesText (folder_lines path table) before after (Ok tt) → Ends (IsFolderEnd path paths before after) (Ok tt)
  folder_listed w = (table, is, w.writes)

  pub folder_cut : (e : LineError) → WritesText (folder_lines path table) before after (Err e)
      → Ends (IsFolderEnd path paths before after) (Err (refusals.NotListed (line_error e)))
  folder_cut lines.NoMemory w = (ends.without_memory, inr (table, is, w.writes), record { status = refl; line = refl })
  folder_cut lines.Unwritten w = (ends.unwritten, (table, is, w.writes.0, w.writes.1), record { status = refl; line = refl })

-- files that are no table
module _ (path : Bytes) (paths : Paths) (o : End) where
  unroomy : (refusal : Refusal) → refusal ≡ refusals.NotListed errors.NoMemory → Ends (IsFolderEnd path paths o o) (Err refusal)
  unroomy refusal same =
      subst (λ (r : Refusal). Ends (IsFolderEnd path paths o o) (Err r)) (sym same)
      (ends.without_memory, inl refl, record { status = refl; line = refl })

  unread : (refusal : Refusal) → refusal ≡ refusals.NotListed errors.ReadFault → Ends (IsFolderEnd path paths o o) (Err refusal)
  unread refusal same =
      subst (λ (r : Refusal). Ends (IsFolderEnd path paths o o) (Err r)) (sym same) (ends.unread, refl, record { status = refl; line = refl })

  mixed : (fault : FolderFault) (refusal : Refusal) → WhereFiles paths path (λ names. IsFolderFault paths.kept path names fault)
      → TellsText (fault_status fault) (folder_text fault) refusal → Ends (IsFolderEnd path paths o o) (Err refusal)
  mixed fault refusal is (inl same) = unroomy refusal same
  mixed fault refusal is (inr tells) = (ends.mixed fault, (is, refl), record { status = tells.0; line = tells.1 })

  pub folder_refused : (error : FolderError) (refusal : Refusal) → IsRefusedFolder paths path error → IsFolderRefusal error refusal
      → Ends (IsFolderEnd path paths o o) (Err refusal)
  folder_refused folders.NoMemory refusal is h = unroomy refusal h
  folder_refused folders.ReadFault refusal is h = unread refusal h
  folder_refused folders.NotListed refusal is h =
      subst (λ (r : Refusal). Ends (IsFolderEnd path paths o o) (Err r)) (sym h) (ends.unlisted, (is, refl), record { status = refl; line = refl })
  folder_refused folders.NoFile refusal is h = mixed no_file refusal is h
  folder_refused (folders.NotOpened name) refusal is h = mixed (unopened_file (string_bytes name)) refusal is h
  folder_refused (folders.NoBlockFile name files.NoMemory) refusal is h = unroomy refusal h
  folder_refused (folders.NoBlockFile name files.ReadFault) refusal is h = unread refusal h
  folder_refused (folders.NoBlockFile name files.BadMagic) refusal is h = mixed (no_block_file (string_bytes name) bad_magic) refusal is h
  folder_refused (folders.NoBlockFile name files.BadHeader) refusal is h = mixed (no_block_file (string_bytes name) bad_header) refusal is h
  folder_refused (folders.NoBlockFile name (files.BadZones e)) refusal is h = mixed (no_block_file (string_bytes name) (bad_zones e)) refusal is h
  folder_refused (folders.NoBlockFile name files.BadEnd) refusal is h = mixed (no_block_file (string_bytes name) bad_end) refusal is h
  folder_refused (folders.Unlike name) refusal is h = mixed (unlike_file (string_bytes name)) refusal is h
  folder_refused folders.TooManyBlocks refusal is h = mixed too_many_blocks refusal is h
