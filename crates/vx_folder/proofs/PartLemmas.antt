-- A file of a folder that is opened on its own: why it isn't, as its path tells it.
use Rattle.std.proofs.Common.{◌≡◌, refl, Option, Some, None}
use Rattle.vx_dtype.specs.Types.{Bytes}
use Rattle.vx_files.specs.Kept as files
use Rattle.vx_laws_file.specs.Opening.{FileRefusal, IsRefusedFile}
use Rattle.vx_file_open.specs.Layouts.{WhereBytes}
use Rattle.vx_file_open.specs.OpenAnswers.{refusal_of, IsRefusedBy}
use Rattle.vx_file_open.specs.declared.errors.FileError.{FileError}
use Rattle.vx_file_open.specs.declared.errors.FileError.TheVariants as errors
use Rattle.vx_laws_shell.specs.Paths.{WhereKept, CannotOpen}
use Rattle.vx_folder.specs.PathViews.{kept_view}
use Rattle.vx_folder.specs.FolderAnswers.{TellsRefusal, IsFileFault, IsPartFault}
use Rattle.vx_folder.specs.declared.errors.FileFault.{FileFault}
use Rattle.vx_folder.specs.declared.errors.FileFault.TheVariants as faults
use Rattle.vx_folder.proofs.KeptLemmas.{where_told}

-- an error that is neither want of memory nor a read that failed tells why the bytes are no block file
pub no_block_file : (told : Option Bytes) (error : FileError) → ¬ (error ≡ errors.NoMemory) → ¬ (error ≡ errors.ReadFault)
    → WhereBytes told (λ bytes. IsRefusedBy bytes (refusal_of error)) → IsPartFault told (faults.NoBlockFile error)
no_block_file told errors.NoMemory memory fault h = absurd (memory refl)
no_block_file told errors.ReadFault memory fault h = absurd (fault refl)
no_block_file told errors.BadMagic memory fault h = h
no_block_file told errors.BadHeader memory fault h = h
no_block_file told (errors.BadZones e) memory fault h = h
no_block_file told errors.BadEnd memory fault h = h

-- a path that can't be opened
pub cannot_open : (k : files.Kept) → files.CannotOpen k → CannotOpen (kept_view k)
cannot_open files.unknown h = tt
cannot_open files.absent h = tt
cannot_open (files.holds bytes) h = absurd h

tells : (k : files.Kept) (told : Option Bytes) (o : Option FileRefusal) → files.IsOpenedAs k told
    → TellsRefusal o (λ r. WhereBytes told (λ bytes. IsRefusedFile bytes r)) → TellsRefusal o (λ r. WhereKept (kept_view k) (λ bytes. IsRefusedFile bytes r))
tells k told None opened h = absurd h
tells k told (Some r) opened h = where_told k told (λ bytes. IsRefusedFile bytes r) opened h

-- the file of a source isn't opened for the reason for which that of its path isn't
pub part_refused : (k : files.Kept) (told : Option Bytes) (fault : FileFault) → files.IsOpenedAs k told → IsPartFault told fault → IsFileFault (kept_view k) fault
part_refused k told faults.NoMemory opened h = tt
part_refused k told faults.ReadFault opened h = tt
part_refused k told faults.NotOpened opened h = absurd h
part_refused k told (faults.NoBlockFile error) opened h = tells k told (refusal_of error) opened h
