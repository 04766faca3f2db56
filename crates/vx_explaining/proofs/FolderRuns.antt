-- What is answered over the block files of a folder.
use Rattle.std.proofs.Common.{◌≡◌, refl, sym, subst, inl, inr, ◌+◌, Err, List}
use Rattle.std.specs.String.{string_bytes}
use Rattle.vx_dtype.specs.Types.{Bytes}
use Rattle.vx_file_open.specs.declared.errors.FileError.TheVariants as files
use Rattle.vx_folder.specs.FolderAnswers.{IsRefusedFolder}
use Rattle.vx_folder.specs.FolderTables.{FilesTable, HoldTable, IsTableOfFolder}
use Rattle.vx_folder.specs.declared.errors.FolderError.{FolderError}
use Rattle.vx_folder.specs.declared.errors.FolderError.TheVariants as folders
use Rattle.vx_folder.proofs.KeptLemmas.{where_each_so}
use Rattle.vx_request.specs.Requests.{most_bytes}
use Rattle.vx_laws_file.specs.Opening.{bad_magic, bad_header, bad_zones, bad_end}
use Rattle.vx_laws_shell.specs.FolderContents.{AreFileNames, FolderFault, no_file, unopened_file, no_block_file, unlike_file, too_many_blocks}
use Rattle.vx_laws_shell.specs.FolderContents.{IsFolderFault, WhereFiles, kept_in}
use Rattle.vx_laws_shell.specs.FolderLines.{folder_text}
use Rattle.vx_laws_shell.specs.Origins.{folder}
use Rattle.vx_laws_shell.specs.Paths.{Listed, Paths, WhereEachKept, WhereListed, lists, no_folder, unlisted}
use Rattle.vx_laws_shell.specs.Running.{End, fault_status}
use Rattle.vx_laws_listing.specs.Listing.{AreSoundZones}
use Rattle.vx_laws_explaining.specs.ExplainingWords.{Asked}
use Rattle.vx_laws_explaining.specs.Explaining as ends
use Rattle.vx_laws_explaining.specs.Explaining.{AreAskedZones, AreZonesOfFiles, AskOrigin, AsksFolder}
use Rattle.vx_explaining.specs.ExplainingSteps.{AnswersWords}
use Rattle.vx_explaining.specs.TableSteps.{IsFolderRefusal, TellsText}
use Rattle.vx_explaining.specs.declared.errors.Refusal.{Refusal}
use Rattle.vx_explaining.specs.declared.errors.Refusal.TheVariants as refusals
use Rattle.vx_explaining.proofs.RunLemmas.{as_told, no_room, took_nothing}

-- ---- what is known of the files

where_listed_so : (listed : Listed) (P Q : List Bytes → Type 0) → ((names : List Bytes) → P names → Q names) → WhereListed listed P → WhereListed listed Q
where_listed_so unlisted P Q so h = tt
where_listed_so no_folder P Q so h = h
where_listed_so (lists names) P Q so h = so names h

where_files_so : (paths : Paths) (path : Bytes) (P Q : List Bytes → Type 0) → ((names : List Bytes) → P names → Q names) → WhereFiles paths path P
    → WhereFiles paths path Q
where_files_so paths path P Q so h =
    where_listed_so (paths.listed path) (λ listed. (names : List Bytes) × AreFileNames listed names × P names)
    (λ listed. (names : List Bytes) × AreFileNames listed names × Q names) (λ listed found. (found.0, found.1, so found.0 found.2)) h

-- what the files of a folder hold as one table is what they hold together
held_zones : (paths : Paths) (path : Bytes) (table : FilesTable) → IsTableOfFolder paths path table
    → WhereFiles paths path (λ names. WhereEachKept (kept_in paths.kept path names) (AreZonesOfFiles table.zones))
held_zones paths path table is =
    where_files_so paths path (λ names. (table.names ≡ names) × WhereEachKept (kept_in paths.kept path names) (HoldTable table))
    (λ names. WhereEachKept (kept_in paths.kept path names) (AreZonesOfFiles table.zones))
    (λ names h. where_each_so (kept_in paths.kept path names) (HoldTable table) (AreZonesOfFiles table.zones)
    (λ files held. record { first = held.first; contents = held.contents; together = held.together; zones_are = held.zones_are }) h.1)
    is

-- ---- a folder that the words ask

module _ (words : List Bytes) (paths : Paths) (i o : End) (asked : Asked) (path : Bytes) (asks : AskOrigin words asked (folder path)) where
  asks_folder : AsksFolder words i i asked path
  asks_folder = record { asks = asks; untaken = refl }

  pub folder_zones : (table : FilesTable) → IsTableOfFolder paths path table → AreSoundZones table.zones → AreAskedZones words paths i i asked table.zones
  folder_zones table is sound = inr (inr (path, asks_folder, record { held = held_zones paths path table is; sound = sound }))

  unroomy : (refusal : Refusal) → refusal ≡ refusals.NoMemory → AnswersWords words paths i i o o (Err refusal)
  unroomy refusal same =
      subst (λ (r : Refusal). AnswersWords words paths i i o o (Err r)) (sym same) (no_room words paths i i o (took_nothing (most_bytes + 1) i.bytes))

  unread : (refusal : Refusal) → refusal ≡ refusals.Unread → AnswersWords words paths i i o o (Err refusal)
  unread refusal same =
      subst (λ (r : Refusal). AnswersWords words paths i i o o (Err r)) (sym same)
      (ends.unread, (inr (inr (asked, path, asks_folder)), refl), as_told ends.unread refusals.Unread refl refl)

  mixed : (fault : FolderFault) (refusal : Refusal) → WhereFiles paths path (λ names. IsFolderFault paths.kept path names fault)
      → TellsText (fault_status fault) (folder_text fault) refusal → AnswersWords words paths i i o o (Err refusal)
  mixed fault refusal is (inl same) = unroomy refusal same
  mixed fault refusal is (inr tells) =
      (ends.mixed fault, (asked, path, asks_folder, is, refl), as_told (ends.mixed fault) refusal tells.0 tells.1)

  pub refused_folder : (error : FolderError) (refusal : Refusal) → IsRefusedFolder paths path error → IsFolderRefusal error refusal
      → AnswersWords words paths i i o o (Err refusal)
  refused_folder folders.NoMemory refusal is h = unroomy refusal h
  refused_folder folders.ReadFault refusal is h = unread refusal h
  refused_folder folders.NotListed refusal is h =
      subst (λ (r : Refusal). AnswersWords words paths i i o o (Err r)) (sym h)
      (ends.unlisted, (asked, path, asks_folder, is, refl), as_told ends.unlisted refusals.Unlisted refl refl)
  refused_folder folders.NoFile refusal is h = mixed no_file refusal is h
  refused_folder (folders.NotOpened name) refusal is h = mixed (unopened_file (string_bytes name)) refusal is h
  refused_folder (folders.NoBlockFile name files.NoMemory) refusal is h = unroomy refusal h
  refused_folder (folders.NoBlockFile name files.ReadFault) refusal is h = unread refusal h
  refused_folder (folders.NoBlockFile name files.BadMagic) refusal is h = mixed (no_block_file (string_bytes name) bad_magic) refusal is h
  refused_folder (folders.NoBlockFile name files.BadHeader) refusal is h = mixed (no_block_file (string_bytes name) bad_header) refusal is h
  refused_folder (folders.NoBlockFile name (files.BadZones e)) refusal is h = mixed (no_block_file (string_bytes name) (bad_zones e)) refusal is h
  refused_folder (folders.NoBlockFile name files.BadEnd) refusal is h = mixed (no_block_file (string_bytes name) bad_end) refusal is h
  refused_folder (folders.Unlike name) refusal is h = mixed (unlike_file (string_bytes name)) refusal is h
  refused_folder folders.TooManyBlocks refusal is h = mixed too_many_blocks refusal is h
