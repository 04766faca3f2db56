-- Refusals of `write`: their exit statuses, and of what they come.
use Rattle.std.specs.Prelude.{ℕ, Result, Ok, Err}
use Rattle.vx_io.specs.declared.reading.InputError.{InputError}
use Rattle.vx_io.specs.declared.reading.InputError.TheVariants as inputs
use Rattle.vx_request.specs.declared.errors.RequestError.{RequestError}
use Rattle.vx_request.specs.declared.errors.RequestError.TheVariants as requests
use Rattle.vx_cutting.specs.declared.errors.CutError.{CutError}
use Rattle.vx_cutting.specs.declared.errors.CutError.TheVariants as cuts
use Rattle.vx_file_bytes.specs.declared.errors.WriteFileError.{WriteFileError}
use Rattle.vx_file_bytes.specs.declared.errors.WriteFileError.TheVariants as writes
use Rattle.vx_files.specs.declared.errors.KeepError.{KeepError}
use Rattle.vx_files.specs.declared.errors.KeepError.TheVariants as keeps
use Rattle.vx_csv.specs.Views.{refusal_view}
use Rattle.vx_csv.specs.declared.errors.CsvError.{CsvError}
use Rattle.vx_csv.specs.declared.errors.CsvError.TheVariants as texts
use Rattle.vx_laws_writing.specs.Writing as told
use Rattle.vx_writing.specs.declared.errors.InputFault.{InputFault}
use Rattle.vx_writing.specs.declared.errors.InputFault.TheVariants as faults
use Rattle.vx_writing.specs.declared.errors.Refusal.{Refusal}
use Rattle.vx_writing.specs.declared.errors.Refusal.TheVariants as refusals

-- the exit status of a refusal
abbrev pub refusal_status : Refusal → ℕ
refusal_status refusals.NoMemory = 8
refusal_status refusals.Usage = 2
refusal_status refusals.Unread = 6
refusal_status (refusals.NoTable fault) = 3
refusal_status refusals.TooLong = 3
refusal_status refusals.Exists = 6
refusal_status refusals.NotKept = 7

-- the exit status of what was answered, or of its refusal
abbrev pub result_status : {A : Type 0} → Result A Refusal → ℕ
result_status (Ok answered) = 0
result_status (Err refusal) = refusal_status refusal

-- why the standard input isn't read, tells no table, and a file isn't kept
abbrev pub input_refusal : InputError → Refusal
input_refusal inputs.NoMemory = refusals.NoMemory
input_refusal inputs.ReadFault = refusals.Unread

abbrev pub table_refusal : RequestError → Refusal
table_refusal requests.NoMemory = refusals.NoMemory
table_refusal error = refusals.NoTable (faults.NoJson error)

abbrev pub text_refusal : CsvError → Refusal
text_refusal texts.NoMemory = refusals.NoMemory
text_refusal (texts.Refused refusal) = refusals.NoTable (faults.NoCsv refusal)

-- why an input tells no table, as data
abbrev pub fault_view : InputFault → told.InputFault
fault_view (faults.NoJson error) = told.no_json error
fault_view faults.LongText = told.long_text
fault_view (faults.NoCsv refusal) = told.no_csv (refusal_view refusal)

abbrev pub keep_refusal : KeepError → Refusal
keep_refusal keeps.NoMemory = refusals.NoMemory
keep_refusal keeps.Exists = refusals.Exists
keep_refusal keeps.NotKept = refusals.NotKept

-- why a table isn't cut, and why it has no file: there was no memory, or something is too long
abbrev pub IsOfCutting : CutError → Type 0
IsOfCutting cuts.NoMemory = Unit {0}
IsOfCutting cuts.TooMany = Unit {0}
IsOfCutting _ = ⊥

abbrev pub IsOfFile : WriteFileError → Type 0
IsOfFile writes.NoMemory = Unit {0}
IsOfFile writes.TooLong = Unit {0}
IsOfFile _ = ⊥

abbrev pub cut_refusal : CutError → Refusal
cut_refusal cuts.NoMemory = refusals.NoMemory
cut_refusal _ = refusals.TooLong

abbrev pub file_refusal : WriteFileError → Refusal
file_refusal writes.NoMemory = refusals.NoMemory
file_refusal _ = refusals.TooLong
