-- What is answered over a block file.
use Rattle.std.proofs.Common.{◌≡◌, refl, ap, subst, inl, inr, ◌+◌, Option, Some, None, Err, List}
use Rattle.vx_dtype.specs.Types.{Bytes}
use Rattle.vx_files.specs.Kept as files
use Rattle.vx_files.specs.Listed as folders
use Rattle.vx_files.specs.declared.errors.OpenError.{OpenError}
use Rattle.vx_files.specs.declared.errors.OpenError.TheVariants as opens
use Rattle.vx_folder.specs.PathViews.{kept_view, paths_by}
use Rattle.vx_request.specs.Requests.{most_bytes}
use Rattle.vx_laws_file.specs.FileForms.{Header}
use Rattle.vx_laws_file.specs.Opening.{FileRefusal, bad_magic, bad_header, bad_zones, bad_end, IsRefusedFile}
use Rattle.vx_file_open.specs.Layouts.{WhereBytes, IsFileWith, content_at}
use Rattle.vx_file_open.specs.OpenAnswers.{IsRefusedBy, refusal_of}
use Rattle.vx_file_open.specs.declared.errors.FileError.{FileError}
use Rattle.vx_file_open.specs.declared.errors.FileError.TheVariants as errors
use Rattle.vx_laws_shell.specs.Origins.{block_file}
use Rattle.vx_laws_shell.specs.Paths.{WhereKept, CannotOpen}
use Rattle.vx_laws_shell.specs.Running.{End}
use Rattle.vx_laws_listing.specs.Listing.{AreSoundZones, AreZonesOfFile}
use Rattle.vx_laws_explaining.specs.ExplainingWords.{Asked}
use Rattle.vx_laws_explaining.specs.Explaining as ends
use Rattle.vx_laws_explaining.specs.Explaining.{AreAskedZones, AskOrigin, AsksFile}
use Rattle.vx_explaining.specs.ExplainingSteps.{AnswersWords}
use Rattle.vx_explaining.specs.Refusals.{TellsEnd, file_refusal}
use Rattle.vx_explaining.specs.TableSteps.{IsUnopened}
use Rattle.vx_explaining.specs.declared.errors.Refusal.{Refusal}
use Rattle.vx_explaining.specs.declared.errors.Refusal.TheVariants as refusals
use Rattle.vx_explaining.proofs.RunLemmas.{as_told, no_room, took_nothing}

-- ---- what is known of a file that is opened

-- what is told of a source is known of the path that it was opened of
where_kept : (kept : files.Kept) (told : Option Bytes) (P : Bytes → Type 0) → files.IsOpenedAs kept told → WhereBytes told P → WhereKept (kept_view kept) P
where_kept files.unknown told P opened is = tt
where_kept files.absent told P opened is = opened
where_kept (files.holds bytes) told P opened is = subst (λ t. WhereBytes t P) opened is

may_open : (kept : files.Kept) (told : Option Bytes) → files.IsOpenedAs kept told → WhereKept (kept_view kept) (λ bytes. Unit {0})
may_open files.unknown told opened = tt
may_open files.absent told opened = opened
may_open (files.holds bytes) told opened = tt

-- the path of a file isn't opened
closed_view : (kept : files.Kept) → files.CannotOpen kept → CannotOpen (kept_view kept)
closed_view files.unknown h = tt
closed_view files.absent h = tt
closed_view (files.holds bytes) h = h

-- the zones of a header are those of the file that a source is
held_zones : (told : Option Bytes) (h : Header) → WhereBytes told (λ bytes. IsFileWith h bytes) → WhereBytes told (AreZonesOfFile h.zones)
held_zones None h is = tt
held_zones (Some bytes) h is = record { content = content_at h bytes; opened = is.opened; zones_are = refl }

-- ---- a file that the words ask

module _ (words : List Bytes) (kept : Bytes → files.Kept) (listed : Bytes → folders.Listed) (i o : End) (asked : Asked) (path : Bytes)
    (asks : AskOrigin words asked (block_file path)) where
  asks_file : AsksFile words i i asked path
  asks_file = record { asks = asks; untaken = refl }

  unroomy : AnswersWords words (paths_by kept listed) i i o o (Err refusals.NoMemory)
  unroomy = no_room words (paths_by kept listed) i i o (took_nothing (most_bytes + 1) i.bytes)

  pub file_zones : (told : Option Bytes) (h : Header) → files.IsOpenedAs (kept path) told → WhereBytes told (λ bytes. IsFileWith h bytes)
      → AreSoundZones h.zones → AreAskedZones words (paths_by kept listed) i i asked h.zones
  file_zones told h opened is sound = inr (inl (
    path,
    asks_file,
    record { held = where_kept (kept path) told (AreZonesOfFile h.zones) opened (held_zones told h is); sound = sound },
  ))

  misfiled : (told : Option Bytes) (r : FileRefusal) (refusal : Refusal) → files.IsOpenedAs (kept path) told
      → WhereBytes told (λ bytes. IsRefusedFile bytes r) → TellsEnd (ends.misfiled r) refusal
      → AnswersWords words (paths_by kept listed) i i o o (Err refusal)
  misfiled told r refusal opened is tell =
      (ends.misfiled r, (asked, path, asks_file, where_kept (kept path) told (λ bytes. IsRefusedFile bytes r) opened is, refl), tell)

  pub source_answer : (told : Option Bytes) (e : FileError) → files.IsOpenedAs (kept path) told
      → WhereBytes told (λ bytes. IsRefusedBy bytes (refusal_of e)) → AnswersWords words (paths_by kept listed) i i o o (Err (file_refusal e))
  source_answer told errors.NoMemory opened is = unroomy
  source_answer told errors.ReadFault opened is = (
    ends.unread,
    (inr (inl (asked, path, asks_file, may_open (kept path) told opened)), refl),
    as_told ends.unread refusals.Unread refl refl,
  )
  source_answer told errors.BadMagic opened is =
      misfiled told bad_magic refusals.BadMagic opened is (as_told (ends.misfiled bad_magic) refusals.BadMagic refl refl)
  source_answer told errors.BadHeader opened is =
      misfiled told bad_header refusals.BadHeader opened is (as_told (ends.misfiled bad_header) refusals.BadHeader refl refl)
  source_answer told (errors.BadZones e) opened is =
      misfiled told (bad_zones e) refusals.BadZones opened is (as_told (ends.misfiled (bad_zones e)) refusals.BadZones refl refl)
  source_answer told errors.BadEnd opened is =
      misfiled told bad_end refusals.BadEnd opened is (as_told (ends.misfiled bad_end) refusals.BadEnd refl refl)

  -- a path that isn't opened
  pub open_answer : (e : OpenError) (refusal : Refusal) → (e ≡ opens.NotOpened → files.CannotOpen (kept path)) → IsUnopened path e refusal
      → AnswersWords words (paths_by kept listed) i i o o (Err refusal)
  open_answer e refusals.NoMemory closed h = unroomy
  open_answer opens.NotOpened (refusals.NotOpened line) closed h = (
    ends.unopened path,
    (asked, asks_file, closed_view (kept path) (closed refl), refl),
    as_told (ends.unopened path) (refusals.NotOpened line) refl (ap Some h),
  )
  open_answer opens.NotOpened _ closed h = absurd h
  open_answer opens.NoMemory _ closed h = absurd h
