-- How the answer over a table is written, and what is told of a read of a block file, or of files together, that failed.
use Rattle.std.specs.Prelude.{◌≡◌, ◌⊎◌, List, [], ◌∷◌, Option, option_map, Result, Ok, Err}
use Rattle.vx_dtype.specs.Types.{Bytes}
use Rattle.vx_io.specs.Ends.{Added}
use Rattle.vx_laws_file.specs.FileForms.{Header, FileContent}
use Rattle.vx_laws_file.specs.HeldTables.{held_table}
use Rattle.vx_laws_file.specs.Opening.{FileRefusal, IsRefusedFile}
use Rattle.vx_laws_shell.specs.Answers.{Answer, answer_of}
use Rattle.vx_laws_shell.specs.Damage.{is_damaged_in, is_never_damaged}
use Rattle.vx_laws_shell.specs.Running.{End}
use Rattle.vx_laws_shell.specs.ToldTables.{table_told}
use Rattle.vx_laws_shell.specs.Words.{Asked}
use Rattle.vx_request.specs.Tables.{ToldTable, told_table}
use Rattle.vx_request.specs.declared.errors.RequestError.{RequestError}
use Rattle.vx_scan.specs.Stores.{Read}
use Rattle.vx_file_open.specs.Layouts.{WhereBytes, IsFileWith, content_at}
use Rattle.vx_file.specs.FileStates.{FileState}
use Rattle.vx_folder.specs.FolderStates.{WhereHeld}
use Rattle.vx_shell.specs.declared.answers.Found.{Found}
use Rattle.vx_shell.specs.declared.counting.Counts.{Counts}
use Rattle.vx_shell.specs.declared.errors.Refusal.{Refusal}
use Rattle.vx_shell.specs.declared.errors.Refusal.TheVariants as refusals
use Rattle.vx_shell.specs.Founds.{EndsBy}
use Rattle.vx_shell.specs.Refusals.{refusal_kind}

-- an answer is written whole, or it ends by a refusal
abbrev pub WritesOut : Answer → End → End → Result Counts Refusal → Type 0
WritesOut answer before after (Ok counted) = (answer.status ≡ 0) × Added before.bytes after.bytes answer.output
WritesOut answer before after (Err refusal) = EndsBy (refusal_kind refusal) answer before after

-- what is told of what was found: its counts, or want of memory for them; or the refusal
abbrev pub Reports : Result Found Refusal → Result Counts Refusal → Type 0
Reports (Ok found) (Ok counted) = Unit {0}
Reports (Ok found) (Err told) = told ≡ refusals.NoMemory
Reports (Err refusal) (Ok counted) = ⊥
Reports (Err refusal) (Err told) = told ≡ refusal

-- why a read of files failed of which these reads failed by damage
abbrev pub IsFaultOf : List Read → Refusal → Type 0
IsFaultOf [] told = told ≡ refusals.Unread
IsFaultOf (read ∷ damaged) told = told ≡ refusals.Damaged

-- a refusal as files tell it: why a read failed
abbrev pub IsToldBy : List Read → Refusal → Refusal → Type 0
IsToldBy damaged refusals.StoreFault told = IsFaultOf damaged told
IsToldBy damaged refusal told = told ≡ refusal

-- what is told of what was found over a file, or over files together
abbrev pub ReportsFile : List Read → Result Found Refusal → Result Counts Refusal → Type 0
ReportsFile damaged (Err refusal) (Err told) = IsToldBy damaged refusal told
ReportsFile damaged (Err refusal) (Ok counted) = ⊥
ReportsFile damaged (Ok found) reported = Reports (Ok found) reported

-- the answer over the table that a file holds, or files together
abbrev pub content_answer : Asked → FileContent → Answer
content_answer asked content = answer_of (is_damaged_in content) (held_table content) content.zones asked

-- some answer is written; and where it is known what is held, that over its table
pub record AnswersContent (asked : Asked) (held : Option FileContent) (before after : End) (result : Result Counts Refusal) : Type 0 where
  pub some : (answer : Answer) × WritesOut answer before after result
  pub told : WhereHeld held (λ content. WritesOut (content_answer asked content) before after result)

-- what a file holds, where its bytes are told
abbrev pub content_told : Header → Option Bytes → Option FileContent
content_told h bytes = option_map (content_at h) bytes

-- the answer over a file
abbrev pub AnswersFile : Asked → FileState → End → End → Result Counts Refusal → Type 0
AnswersFile asked file before after result = AnswersContent asked (content_told file.header file.bytes) before after result

-- no read failed that an input may fail by
abbrev pub IsNeverUnread : Result Counts Refusal → Type 0
IsNeverUnread (Err refusals.Unread) = ⊥
IsNeverUnread (Err refusals.StoreFault) = ⊥
IsNeverUnread _ = Unit {0}

-- bytes that tell no table are refused, or there was no memory
abbrev pub IsUntold : Result ToldTable RequestError → Result Counts Refusal → Type 0
IsUntold given (Err refusals.NoMemory) = Unit {0}
IsUntold given (Err (refusals.NoTable error)) = (e : RequestError) × (given ≡ Err e)
IsUntold given _ = ⊥

-- the answer over a table that is told, of which no read fails
pub record IsToldAnswer (asked : Asked) (told : ToldTable) (before after : End) (result : Result Counts Refusal) : Type 0 where
  pub writes : WritesOut (answer_of is_never_damaged (table_told told) told.zones asked) before after result
  pub read : IsNeverUnread result

-- what is answered over the bytes of the standard input
abbrev pub AnswersBytes : Asked → Bytes → End → End → Result Counts Refusal → Type 0
AnswersBytes asked bytes before after result =
    ((told : ToldTable) × (told_table bytes ≡ Ok told) × IsToldAnswer asked told before after result)
    ⊎ ((after ≡ before) × IsUntold (told_table bytes) result)

-- bytes that are no block file are refused, where they are told for their reason; or there was no memory, or a read failed
abbrev pub IsMisfiled : Option Bytes → Result Counts Refusal → Type 0
IsMisfiled told (Err refusals.NoMemory) = Unit {0}
IsMisfiled told (Err refusals.Unread) = Unit {0}
IsMisfiled told (Err (refusals.NoFile error)) = (r : FileRefusal) × WhereBytes told (λ bytes. IsRefusedFile bytes r)
IsMisfiled told _ = ⊥

-- the answer over the block file that a source holds
pub record IsFileAnswer (asked : Asked) (told : Option Bytes) (before after : End) (result : Result Counts Refusal) : Type 0 where
  pub file : FileState
  pub bytes : file.bytes ≡ told
  pub opened : WhereBytes told (IsFileWith file.header)
  pub answers : AnswersFile asked file before after result

-- what is answered over the bytes of a source
abbrev pub AnswersSource : Asked → Option Bytes → End → End → Result Counts Refusal → Type 0
AnswersSource asked told before after result = IsFileAnswer asked told before after result ⊎ ((after ≡ before) × IsMisfiled told result)
