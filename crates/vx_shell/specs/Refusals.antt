-- Why runs end before their rows are written whole: the exit statuses, and what each refusal says of the answer.
use Rattle.std.specs.Prelude.{◌≡◌, ℕ, ◌≤◌, Result, Ok, Err}
use Rattle.vx_io.specs.Counts.{one_more}
use Rattle.vx_io.specs.declared.reading.InputError.{InputError}
use Rattle.vx_io.specs.declared.reading.InputError.TheVariants as inputs
use Rattle.vx_request.specs.declared.errors.RequestError.{RequestError}
use Rattle.vx_request.specs.declared.errors.RequestError.TheVariants as requests
use Rattle.vx_file_open.specs.declared.errors.FileError.{FileError}
use Rattle.vx_file_open.specs.declared.errors.FileError.TheVariants as files
use Rattle.vx_sql_lines.specs.declared.told.ToldError.{ToldError}
use Rattle.vx_sql_lines.specs.declared.told.ToldError.TheVariants as tells
use Rattle.vx_semantics.specs.Breaks.{by_sum, by_cast}
use Rattle.vx_scan.specs.ErrorKinds.{ErrorKind, of_memory, of_break, of_read}
use Rattle.vx_laws_shell.specs.OrderedRuns.{RunEnd, finished, without_value, without_column, without_room, without_output}
use Rattle.vx_laws_shell.specs.Running.{Cut, unwritten, without_memory, file_unread, cut_status}
use Rattle.vx_shell.specs.declared.errors.Refusal.{Refusal}
use Rattle.vx_files.specs.declared.errors.OpenError.{OpenError}
use Rattle.vx_files.specs.declared.errors.OpenError.TheVariants as opens
use Rattle.vx_folder.specs.declared.errors.FolderError.{FolderError}
use Rattle.vx_folder.specs.declared.errors.FolderError.TheVariants as folders
use Rattle.vx_shell.specs.declared.errors.Refusal.TheVariants as refusals

-- what a refusal says of the answer: it has this status, or it was cut
pub data RefusalKind : Type 0 where
  settled : ℕ → RefusalKind
  cut : Cut → RefusalKind

abbrev pub refusal_kind : Refusal → RefusalKind
refusal_kind refusals.NoMemory = cut without_memory
refusal_kind refusals.Usage = settled 2
refusal_kind (refusals.PastEnd range blocks) = settled 2
refusal_kind (refusals.NoTable error) = settled 3
refusal_kind (refusals.NoFile error) = settled 3
refusal_kind (refusals.Mixed line) = settled 3
refusal_kind refusals.Damaged = settled 3
refusal_kind (refusals.Statement line) = settled 4
refusal_kind refusals.Unlimited = settled 4
refusal_kind (refusals.TooMany count) = settled 4
refusal_kind refusals.Overflow = settled 5
refusal_kind refusals.BadCast = settled 5
refusal_kind (refusals.NotOpened path) = settled 6
refusal_kind refusals.Unread = cut file_unread
refusal_kind refusals.StoreFault = cut file_unread
refusal_kind refusals.Unwritten = cut unwritten

-- the exit status of a refusal
abbrev pub kind_status : RefusalKind → ℕ
kind_status (settled status) = status
kind_status (cut why) = cut_status why

abbrev pub refusal_status : Refusal → ℕ
refusal_status refusal = kind_status (refusal_kind refusal)

-- why a statement isn't taken, the standard input isn't read and tells no table, and bytes are no block file
abbrev pub statement_refusal : ToldError → Refusal
statement_refusal tells.NoMemory = refusals.NoMemory
statement_refusal (tells.Refused line) = refusals.Statement line

abbrev pub input_refusal : InputError → Refusal
input_refusal inputs.NoMemory = refusals.NoMemory
input_refusal inputs.ReadFault = refusals.Unread

abbrev pub table_refusal : RequestError → Refusal
table_refusal requests.NoMemory = refusals.NoMemory
table_refusal error = refusals.NoTable error

abbrev pub file_refusal : FileError → Refusal
file_refusal files.NoMemory = refusals.NoMemory
file_refusal files.ReadFault = refusals.Unread
file_refusal error = refusals.NoFile error

-- the exit status of what was answered, or of its refusal
abbrev pub result_status : {A : Type 0} → Result A Refusal → ℕ
result_status (Ok answered) = 0
result_status (Err refusal) = refusal_status refusal

-- a refusal of this status, or want of memory in its place
abbrev pub IsSettled : ℕ → RefusalKind → Type 0
IsSettled status (settled told) = told ≡ status
IsSettled status (cut why) = why ≡ without_memory

-- the refusal of a path that isn't opened
abbrev pub IsUnopened : OpenError → RefusalKind → Type 0
IsUnopened opens.NotOpened kind = IsSettled 6 kind
IsUnopened opens.NoMemory kind = kind ≡ cut without_memory

-- the refusal of a folder whose files aren't opened as one table
abbrev pub IsFolderRefusal : FolderError → RefusalKind → Type 0
IsFolderRefusal folders.NoMemory kind = kind ≡ cut without_memory
IsFolderRefusal folders.ReadFault kind = kind ≡ cut file_unread
IsFolderRefusal folders.NotListed kind = IsSettled 6 kind
IsFolderRefusal (folders.NotOpened name) kind = IsSettled 6 kind
IsFolderRefusal _ kind = IsSettled 3 kind

-- the kinds of the errors that come in a block
abbrev pub ComesInBlock : ErrorKind → Type 0
ComesInBlock of_memory = Unit {0}
ComesInBlock (of_break cause) = Unit {0}
ComesInBlock of_read = Unit {0}
ComesInBlock _ = ⊥

-- the refusal of an error of a kind
abbrev pub IsScanRefusal : ErrorKind → Refusal → Type 0
IsScanRefusal of_memory refusal = refusal ≡ refusals.NoMemory
IsScanRefusal (of_break by_sum) refusal = refusal ≡ refusals.Overflow
IsScanRefusal (of_break by_cast) refusal = refusal ≡ refusals.BadCast
IsScanRefusal of_read refusal = refusal ≡ refusals.StoreFault
IsScanRefusal _ refusal = ⊥

-- why rows aren't written whole: there was no memory, or a write failed, which counted a fault
abbrev pub CutsRows : Refusal → ℕ → ℕ → Type 0
CutsRows refusals.NoMemory before after = Unit {0}
CutsRows refusals.Unwritten before after = one_more before ≤ after
CutsRows _ before after = ⊥

-- how a run over a table ends by a refusal; no other one comes
abbrev pub EndsRun : Refusal → RunEnd → Type 0
EndsRun refusals.NoMemory end = end ≡ without_room
EndsRun refusals.Overflow end = end ≡ without_value
EndsRun refusals.BadCast end = end ≡ without_value
EndsRun refusals.StoreFault end = end ≡ without_column
EndsRun refusals.Unwritten end = end ≡ without_output
EndsRun _ end = ⊥

abbrev pub IsEndOf : {A : Type 0} → Result A Refusal → RunEnd → Type 0
IsEndOf (Ok answered) end = end ≡ finished
IsEndOf (Err refusal) end = EndsRun refusal end
