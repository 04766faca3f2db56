-- What a run of the words of `sql` is, over the ends of the program and the files that it can open.
use Rattle.std.specs.Prelude.{◌≡◌, ◌⊎◌, ℕ, ◌+◌, ◌≤◌, List, [], length, Option, Some, None, Ok, Err}
use Rattle.vx_dtype.specs.Types.{Bytes}
use Rattle.vx_io.specs.Counts.{one_more}
use Rattle.vx_io.specs.Ends.{TookPart, TookUpTo, Added, AddedPrefix}
use Rattle.vx_request.specs.Requests.{most_bytes}
use Rattle.vx_request.specs.Tables.{ToldTable, told_table}
use Rattle.vx_request.specs.declared.errors.RequestError.{RequestError}
use Rattle.vx_laws_file.specs.FileForms.{FileContent}
use Rattle.vx_laws_file.specs.HeldTables.{held_table}
use Rattle.vx_laws_file.specs.Opening.{IsOpened, FileRefusal, IsRefusedFile}
use Rattle.vx_laws_statements.specs.Refusals.{StatementRefusal}
use Rattle.vx_laws_statements.specs.TableNames.{table_named}
use Rattle.vx_laws_shell.specs.Answers.{Answer, answer_of}
use Rattle.vx_laws_shell.specs.Damage.{is_damaged_in, is_never_damaged}
use Rattle.vx_laws_shell.specs.Paths.{WhereKept, CannotOpen, Paths, WhereEachKept, CannotList}
use Rattle.vx_laws_shell.specs.FolderContents.{contents_joined, HoldTogether, FolderFault, unopened_file, kept_in, IsFolderFault, WhereFiles}
use Rattle.vx_laws_shell.specs.Origins.{standard_input, block_file, folder, origin_of}
use Rattle.vx_laws_shell.specs.ToldTables.{table_told}
use Rattle.vx_laws_shell.specs.Words.{Asked, asked_of}

-- an end of the program: its bytes, to come or written, where they are told, and how many of its faults were counted
pub record End : Type 0 where
  pub bytes : Option Bytes
  pub faults : ℕ

-- the end of these meanings
abbrev pub end_by : {E : Type 0} → (E → Option Bytes) → (E → ℕ) → E → End
end_by bytes faults end = record { bytes = bytes end; faults = faults end }

-- how a run ends: words of no form; a statement that names no table; a path that can't be opened; a read that failed; an input that tells no table; bytes
-- that are no block file; files of a folder that are no table; or the answer over the table
pub data Outcome : Type 0 where
  misused : Outcome
  unnamed : StatementRefusal → Outcome
  unopened : Outcome
  unread : Outcome
  untold : RequestError → Outcome
  misfiled : FileRefusal → Outcome
  mixed : FolderFault → Outcome
  answered : Answer → Outcome

-- the exit status of a fault of a folder
abbrev pub fault_status : FolderFault → ℕ
fault_status (unopened_file name) = 6
fault_status _ = 3

-- the exit status of an outcome, and what is written of it to the output
abbrev pub status_of : Outcome → ℕ
status_of misused = 2
status_of (unnamed r) = 4
status_of unopened = 6
status_of unread = 6
status_of (untold e) = 3
status_of (misfiled r) = 3
status_of (mixed fault) = fault_status fault
status_of (answered answer) = answer.status

abbrev pub output_of : Outcome → Bytes
output_of (answered answer) = answer.output
output_of _ = []

-- the words ask this of a table of this name
pub record AskOf (words : List Bytes) (asked : Asked) (name : Bytes) : Type 0 where
  pub form : asked_of words ≡ Some asked
  pub named : table_named asked.statement ≡ Ok name

-- the input was taken to its end, or to one byte more than the most, and no read failed
pub record IsTaken (before after : End) (input : Bytes) : Type 0 where
  pub bytes : TookUpTo (most_bytes + 1) before.bytes after.bytes input
  pub within : length input ≤ most_bytes + 1
  pub quiet : after.faults ≡ before.faults

-- the words ask a table of the standard input, of which this was taken
pub record TakesTable (words : List Bytes) (before after : End) (asked : Asked) (input : Bytes) : Type 0 where
  pub name : Bytes
  pub asks : AskOf words asked name
  pub origin : origin_of name ≡ standard_input
  pub taken : IsTaken before after input

-- the words ask a block file of a path; of the standard input nothing is taken
pub record AsksFile (words : List Bytes) (before after : End) (asked : Asked) (path : Bytes) : Type 0 where
  pub name : Bytes
  pub asks : AskOf words asked name
  pub origin : origin_of name ≡ block_file path
  pub untaken : after ≡ before

-- the words ask the block files of a folder; of the standard input nothing is taken
pub record AsksFolder (words : List Bytes) (before after : End) (asked : Asked) (path : Bytes) : Type 0 where
  pub name : Bytes
  pub asks : AskOf words asked name
  pub origin : origin_of name ≡ folder path
  pub untaken : after ≡ before

-- the answer over the table that a text tells, and over the one that a file holds
abbrev pub IsAnswerOfText : Asked → Answer → ToldTable → Type 0
IsAnswerOfText asked answer told = answer ≡ answer_of is_never_damaged (table_told told) told.zones asked

pub record IsAnswerOfFile (asked : Asked) (answer : Answer) (bytes : Bytes) : Type 0 where
  pub content : FileContent
  pub opened : IsOpened bytes content
  pub answer_is : answer ≡ answer_of (is_damaged_in content) (held_table content) content.zones asked

-- and the answer over the one that files hold together
pub record IsAnswerOfFiles (asked : Asked) (answer : Answer) (files : List Bytes) : Type 0 where
  pub first : FileContent
  pub contents : List FileContent
  pub together : HoldTogether files first contents
  pub answer_is : let content = contents_joined first contents in
      answer ≡ answer_of (is_damaged_in content) (held_table content) content.zones asked

-- what an outcome says of the words, of what the paths lead to, and of the standard input
abbrev pub IsOutcome : List Bytes → Paths → End → End → Outcome → Type 0
IsOutcome words paths before after misused = (asked_of words ≡ None) × (after ≡ before)
IsOutcome words paths before after (unnamed r) =
    (asked : Asked) × (asked_of words ≡ Some asked) × (table_named asked.statement ≡ Err r) × (after ≡ before)
IsOutcome words paths before after unopened =
    ((asked : Asked) × (path : Bytes) × AsksFile words before after asked path × CannotOpen (paths.kept path))
    ⊎ ((asked : Asked) × (path : Bytes) × AsksFolder words before after asked path × CannotList (paths.listed path))
IsOutcome words paths before after unread =
    (asked : Asked) × (name : Bytes) × AskOf words asked name × (origin_of name ≡ standard_input)
    × TookPart (most_bytes + 1) before.bytes after.bytes × (one_more before.faults ≤ after.faults)
IsOutcome words paths before after (untold e) =
    (asked : Asked) × (input : Bytes) × TakesTable words before after asked input × (told_table input ≡ Err e)
IsOutcome words paths before after (misfiled r) =
    (asked : Asked) × (path : Bytes) × AsksFile words before after asked path × WhereKept (paths.kept path) (λ bytes. IsRefusedFile bytes r)
IsOutcome words paths before after (mixed fault) =
    (asked : Asked) × (path : Bytes) × AsksFolder words before after asked path
    × WhereFiles paths path (λ names. IsFolderFault paths.kept path names fault)
IsOutcome words paths before after (answered answer) =
    ((asked : Asked) × (input : Bytes) × (told : ToldTable) × TakesTable words before after asked input
    × (told_table input ≡ Ok told) × IsAnswerOfText asked answer told)
    ⊎ (((asked : Asked) × (path : Bytes) × AsksFile words before after asked path × WhereKept (paths.kept path) (IsAnswerOfFile asked answer))
    ⊎ ((asked : Asked) × (path : Bytes) × AsksFolder words before after asked path
    × WhereFiles paths path (λ names. WhereEachKept (kept_in paths.kept path names) (IsAnswerOfFiles asked answer))))

-- whether the words ask a block file or a folder of them, whose reads may fail at any time
abbrev pub AskSomeFile : List Bytes → Type 0
AskSomeFile words =
    (asked : Asked) × (name : Bytes) × (path : Bytes) × AskOf words asked name × ((origin_of name ≡ block_file path) ⊎ (origin_of name ≡ folder path))

-- why the lines of an outcome aren't written whole: a write failed, there was no memory, or a read of the block file failed
pub data Cut : Type 0 where
  unwritten : Cut
  without_memory : Cut
  file_unread : Cut

abbrev pub cut_status : Cut → ℕ
cut_status unwritten = 7
cut_status without_memory = 8
cut_status file_unread = 6

abbrev pub HasCutCause : Cut → List Bytes → End → End → Type 0
HasCutCause unwritten words before after = one_more before.faults ≤ after.faults
HasCutCause without_memory words before after = Unit {0}
HasCutCause file_unread words before after = AskSomeFile words

-- the lines of an outcome were written whole, with its status
pub record IsWhole (outcome : Outcome) (before after : End) (status : ℕ) : Type 0 where
  pub told : status ≡ status_of outcome
  pub whole : Added before.bytes after.bytes (output_of outcome)

-- or first bytes of them were, and the status tells why no more
pub record IsCut (words : List Bytes) (outcome : Outcome) (before after : End) (status : ℕ) : Type 0 where
  pub why : Cut
  pub told : status ≡ cut_status why
  pub cause : HasCutCause why words before after
  pub part : AddedPrefix before.bytes after.bytes (output_of outcome)

-- a run that came to its end, or was cut: what it took of the input, and what it wrote
pub record IsEnded (words : List Bytes) (paths : Paths) (input_before input_after output_before output_after : End) (status : ℕ) : Type 0 where
  pub outcome : Outcome
  pub is : IsOutcome words paths input_before input_after outcome
  pub writes : IsWhole outcome output_before output_after status ⊎ IsCut words outcome output_before output_after status

-- a run that was cut before the first row: without memory for the input or for what is made ready, or by a read of the block file's header that failed. A
-- first part of the input was taken, and nothing is written
pub record IsUnready (words : List Bytes) (input_before input_after output_before output_after : End) (status : ℕ) : Type 0 where
  pub why : Cut
  pub told : status ≡ cut_status why
  pub cause : HasCutCause why words output_before output_after
  pub part : TookPart (most_bytes + 1) input_before.bytes input_after.bytes
  pub unwritten : output_after ≡ output_before

-- a run of the words of `sql`. What is written to the errors isn't told
abbrev pub IsShellRun : List Bytes → Paths → End → End → End → End → ℕ → Type 0
IsShellRun words paths input_before input_after output_before output_after status =
    IsEnded words paths input_before input_after output_before output_after status
    ⊎ IsUnready words input_before input_after output_before output_after status
