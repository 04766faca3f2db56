-- The steps of a run, put together.
use Rattle.std.proofs.Common.{◌≡◌, refl, sym, inl, inr, ℕ, List, Option, Some, None, Result, Ok, Err}
use Rattle.vx_dtype.specs.Types.{Bytes}
use Rattle.vx_semantics.specs.Tables.{Zones}
use Rattle.vx_laws_file.specs.FileForms.{Header}
use Rattle.vx_laws_file.specs.Opening.{FileRefusal, bad_magic, bad_header, bad_zones, bad_end, IsRefusedFile}
use Rattle.vx_file_open.specs.Layouts.{WhereBytes, IsFileWith, content_at}
use Rattle.vx_file_open.specs.OpenAnswers.{CountsFailure, OpensBytes}
use Rattle.vx_file_open.specs.declared.errors.FileError.{FileError}
use Rattle.vx_file_open.specs.declared.errors.FileError.TheVariants as files
use Rattle.vx_files.specs.Kept as files_kept
use Rattle.vx_folder.specs.PathViews.{kept_view}
use Rattle.vx_folder.proofs.KeptLemmas.{where_told}
use Rattle.vx_folder.proofs.PartLemmas.{cannot_open}
use Rattle.vx_laws_shell.specs.Origins.{Origin, standard_input, block_file, folder}
use Rattle.vx_laws_shell.specs.Paths.{Kept, WhereKept, Paths}
use Rattle.vx_laws_shell.specs.Running.{End}
use Rattle.vx_laws_listing.specs.Listing as ends
use Rattle.vx_laws_listing.specs.Listing.{ListingEnd, AreSoundZones, AreZonesOfFile, AreZonesOfPath, IsFolderEnd, IsListingEnd, IsPathEnd}
use Rattle.vx_laws_listing.specs.ListingTexts.{listing_lines}
use Rattle.vx_laws_listing.specs.ListingWords.{listing_asked_of}
use Rattle.vx_listing.specs.ListingEnds.{Ends, error_end, file_error, line_error}
use Rattle.vx_listing.specs.ListingSteps.{AreZonesOfSource, AsksBlocks, IsBlocksEnd, IsRefusedSource, ListsFile, ListsOpened, Writes}
use Rattle.vx_listing.specs.declared.errors.LineError.{LineError}
use Rattle.vx_listing.specs.declared.errors.LineError.TheVariants as lines
use Rattle.vx_listing.specs.declared.errors.ListingError.{ListingError}
use Rattle.vx_listing.specs.declared.errors.ListingError.TheVariants as errors
use Rattle.vx_listing.specs.declared.errors.Refusal.{Refusal}
use Rattle.vx_listing.specs.declared.errors.Refusal.TheVariants as refusals

-- the zones of a header are those of the file that a source is
held_zones : (told : Option Bytes) (h : Header) → WhereBytes told (λ bytes. IsFileWith h bytes) → WhereBytes told (AreZonesOfFile h.zones)
held_zones None h is = tt
held_zones (Some bytes) h is = record { content = content_at h bytes; opened = is.opened; zones_are = refl }

pub source_zones : (told : Option Bytes) (h : Header) → WhereBytes told (λ bytes. IsFileWith h bytes) → AreSoundZones h.zones → AreZonesOfSource told h.zones
source_zones told h is sound = record { held = held_zones told h is; sound = sound }

-- a source that isn't opened
pub unopened_so : (path : Bytes) (told : Option Bytes) (faults now : ℕ) (end : End) (e : FileError) → CountsFailure e faults now → WhereBytes told (λ bytes. OpensBytes bytes (Err e))
    → ListsFile path told faults now end end (Err (file_error e))
unopened_so path told faults now end files.NoMemory counts is = (inl refl, counts)
unopened_so path told faults now end files.ReadFault counts is = (counts.1, refl)
unopened_so path told faults now end files.BadMagic counts is = record { refused = is; quiet = counts; untouched = refl }
unopened_so path told faults now end files.BadHeader counts is = record { refused = is; quiet = counts; untouched = refl }
unopened_so path told faults now end (files.BadZones e) counts is = record { refused = is; quiet = counts; untouched = refl }
unopened_so path told faults now end files.BadEnd counts is = record { refused = is; quiet = counts; untouched = refl }

-- a source whose lines aren't written whole
pub cut_so : (path : Bytes) (told : Option Bytes) (zones : Zones) (faults now : ℕ) (before after : End) (e : LineError) → AreZonesOfSource told zones → now ≡ faults
    → Writes (listing_lines path zones) before after (Err e) → ListsFile path told faults now before after (Err (line_error e))
cut_so path told zones faults now before after lines.NoMemory is quiet w = (inr (zones, is, w), quiet)
cut_so path told zones faults now before after lines.Unwritten is quiet w = (zones, is, w.0, w.1, quiet)

-- ---- a file that was opened, as the path that it was opened of

may_open : (kept : files_kept.Kept) (told : Option Bytes) → files_kept.IsOpenedAs kept told → WhereKept (kept_view kept) (λ bytes. Unit {0})
may_open files_kept.unknown told opened = tt
may_open files_kept.absent told opened = absurd opened
may_open (files_kept.holds bytes) told opened = tt

path_zones : (kept : files_kept.Kept) (told : Option Bytes) (zones : Zones) → files_kept.IsOpenedAs kept told → AreZonesOfSource told zones
    → AreZonesOfPath (kept_view kept) zones
path_zones kept told zones opened is = record { held = where_told kept told (AreZonesOfFile zones) opened is.held; sound = is.sound }

module _ (path : Bytes) (kept : files_kept.Kept) (told : Option Bytes) (opened : files_kept.IsOpenedAs kept told) (before after : End) where
  refused_end : (faults now : ℕ) (r : FileRefusal) → IsRefusedSource told faults now before after r → IsPathEnd path (kept_view kept) before after (ends.misfiled r)
  refused_end faults now r is = (where_told kept told (λ bytes. IsRefusedFile bytes r) opened is.refused, is.untouched)

  failed_end : (faults now : ℕ) (e : ListingError) → ListsFile path told faults now before after (Err e) → IsPathEnd path (kept_view kept) before after (error_end e)
  failed_end faults now errors.NoMemory (inl same, quiet) = inl same
  failed_end faults now errors.NoMemory (inr more, quiet) = inr (more.0, path_zones kept told more.0 opened more.1, more.2)
  failed_end faults now errors.ReadFault is = (may_open kept told opened, is.1)
  failed_end faults now errors.BadMagic is = refused_end faults now bad_magic is
  failed_end faults now errors.BadHeader is = refused_end faults now bad_header is
  failed_end faults now (errors.BadZones e) is = refused_end faults now (bad_zones e) is
  failed_end faults now errors.BadEnd is = refused_end faults now bad_end is
  failed_end faults now errors.Unwritten is = (is.0, path_zones kept told is.0 opened is.1, is.2, is.3)

  pub path_end : (r : Result (Unit {0}) Refusal) → ListsOpened path told before after r → Ends (IsPathEnd path (kept_view kept) before after) r
  path_end (Ok done) is = (is.2.0, path_zones kept told is.2.0 opened is.2.1, is.2.2)
  path_end (Err refusals.Usage) is = absurd is
  path_end (Err refusals.NotOpened) is = absurd is
  path_end (Err refusals.NoFolder) is = absurd is
  path_end (Err (refusals.FileNotOpened line)) is = absurd is
  path_end (Err (refusals.NoTable line)) is = absurd is
  path_end (Err (refusals.NotListed e)) is = (error_end e, failed_end is.0 is.1 e is.2, record { status = refl; line = refl })

-- a path that isn't opened
pub unopened_path : (path : Bytes) (kept : files_kept.Kept) (end : End) → files_kept.CannotOpen kept
    → Ends (IsPathEnd path (kept_view kept) end end) (Err refusals.NotOpened)
unopened_path path kept end is = (ends.unopened, (cannot_open kept is, refl), record { status = refl; line = refl })

pub unroomy_path : (path : Bytes) (kept : Kept) (end : End) → Ends (IsPathEnd path kept end end) (Err (refusals.NotListed errors.NoMemory))
unroomy_path path kept end = (ends.without_memory, inl refl, record { status = refl; line = refl })

-- ---- what words ask

asked_file : (words : List Bytes) (paths : Paths) (path : Bytes) (before after : End) (end : ListingEnd) → listing_asked_of words ≡ Some (block_file path)
    → IsPathEnd path (paths.kept path) before after end → IsListingEnd words paths before after end
asked_file words paths path before after ends.misused form is = absurd is
asked_file words paths path before after ends.unopened form is = inl (path, form, is)
asked_file words paths path before after ends.unlisted form is = absurd is
asked_file words paths path before after ends.unread form is = inl (path, form, is)
asked_file words paths path before after (ends.misfiled r) form is = inl (path, form, is)
asked_file words paths path before after (ends.mixed fault) form is = absurd is
asked_file words paths path before after ends.unwritten form is = inl (path, form, is)
asked_file words paths path before after ends.without_memory form is = inr (inl (path, form, is))
asked_file words paths path before after ends.listed form is = inl (path, form, is)

asked_folder : (words : List Bytes) (paths : Paths) (path : Bytes) (before after : End) (end : ListingEnd) → listing_asked_of words ≡ Some (folder path)
    → IsFolderEnd path paths before after end → IsListingEnd words paths before after end
asked_folder words paths path before after ends.misused form is = absurd is
asked_folder words paths path before after ends.unopened form is = absurd is
asked_folder words paths path before after ends.unlisted form is = inr (path, form, is)
asked_folder words paths path before after ends.unread form is = inr (path, form, is)
asked_folder words paths path before after (ends.misfiled r) form is = absurd is
asked_folder words paths path before after (ends.mixed fault) form is = inr (path, form, is)
asked_folder words paths path before after ends.unwritten form is = inr (path, form, is)
asked_folder words paths path before after ends.without_memory form is = inr (inr (path, form, is))
asked_folder words paths path before after ends.listed form is = inr (path, form, is)

asked_end : (words : List Bytes) (paths : Paths) (asked : Origin) (before after : End) (end : ListingEnd) → listing_asked_of words ≡ Some asked
    → IsBlocksEnd asked paths before after end → IsListingEnd words paths before after end
asked_end words paths standard_input before after end form is = absurd is
asked_end words paths (block_file path) before after end form is = asked_file words paths path before after end form is
asked_end words paths (folder path) before after end form is = asked_folder words paths path before after end form is

-- what is said of each end holds of what is answered
ends_so : (P Q : ListingEnd → Type 0) (r : Result (Unit {0}) Refusal) → ((end : ListingEnd) → P end → Q end) → Ends P r → Ends Q r
ends_so P Q (Ok done) so h = so ends.listed h
ends_so P Q (Err refusal) so h = (h.0, so h.0 h.1, h.2)

pub asked_so : (words : List Bytes) (paths : Paths) (asked : Origin) (before after : End) (r : Result (Unit {0}) Refusal) → Some asked ≡ listing_asked_of words
    → Ends (IsBlocksEnd asked paths before after) r → Ends (IsListingEnd words paths before after) r
asked_so words paths asked before after r form is =
    ends_so (IsBlocksEnd asked paths before after) (IsListingEnd words paths before after) r
    (λ end. asked_end words paths asked before after end (sym form)) is

-- words that ask nothing that is known
pub refused_so : (words : List Bytes) (paths : Paths) (end : End) (r : Refusal) → AsksBlocks words (Err r) → Ends (IsListingEnd words paths end end) (Err r)
refused_so words paths end refusals.Usage form = (ends.misused, (sym form, refl), record { status = refl; line = refl })
refused_so words paths end refusals.NotOpened form = absurd form
refused_so words paths end refusals.NoFolder form = absurd form
refused_so words paths end (refusals.FileNotOpened line) form = absurd form
refused_so words paths end (refusals.NoTable line) form = absurd form
refused_so words paths end (refusals.NotListed errors.NoMemory) form = (ends.without_memory, inl refl, record { status = refl; line = refl })
refused_so words paths end (refusals.NotListed errors.ReadFault) form = absurd form
refused_so words paths end (refusals.NotListed errors.BadMagic) form = absurd form
refused_so words paths end (refusals.NotListed errors.BadHeader) form = absurd form
refused_so words paths end (refusals.NotListed (errors.BadZones e)) form = absurd form
refused_so words paths end (refusals.NotListed errors.BadEnd) form = absurd form
refused_so words paths end (refusals.NotListed errors.Unwritten) form = absurd form
