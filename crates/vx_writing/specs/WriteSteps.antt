-- What the steps of a run answer: the table that the standard input tells, and the file that is kept of it.
use Rattle.std.specs.Prelude.{◌≡◌, ◌≤◌, ◌+◌, Bool, false, List, Result, Ok, Err}
use Rattle.std.proofs.Common.{Bor}
use Rattle.vx_dtype.specs.Types.{Bytes, Fields}
use Rattle.vx_io.specs.Counts.{one_more}
use Rattle.vx_io.specs.Ends.{TookPart}
use Rattle.vx_request.specs.Requests.{most_bytes}
use Rattle.vx_request.specs.RequestViews.{told_view}
use Rattle.vx_request.specs.Tables.{ToldTable}
use Rattle.vx_request.specs.declared.tables.ToldTable.{ToldTable as ToldCode}
use Rattle.vx_files.specs.Kept.{MayStand}
use Rattle.vx_files.specs.Keeping.{IsKept, KeepsNothing}
use Rattle.vx_files.specs.FolderKeeping.{NamedFile, IsFolderKept, MayStandIn}
use Rattle.vx_laws_shell.specs.Running.{End, IsTaken}
use Rattle.vx_laws_writing.specs.WriteWords.{WriteAsk}
use Rattle.vx_laws_writing.specs.Writing.{AreUntouched, FilesEnd, InputFault, IsKeptAs, IsTooLong, StandsAt, rows_cut, table_asked}
use Rattle.vx_writing.specs.WriteRefusals.{fault_view}
use Rattle.vx_writing.specs.declared.errors.Refusal.{Refusal}
use Rattle.vx_writing.specs.declared.errors.Refusal.TheVariants.{NoMemory, Unread, NoTable, TooLong, Exists, NotKept}

-- given columns as data
abbrev pub fields_at : Bor Fields → Fields
fields_at columns = columns.now

-- the answer is the table that is told of an input, or why there is none; want of memory may be answered at any time
abbrev pub AnswersInput : Result ToldTable InputFault → Result ToldCode Refusal → Type 0
AnswersInput given (Ok told) = given ≡ Ok (told_view told)
AnswersInput given (Err NoMemory) = Unit {0}
AnswersInput given (Err (NoTable fault)) = given ≡ Err (fault_view fault)
AnswersInput given (Err _) = ⊥

-- the input tells the table that is asked, or why none was told
abbrev pub TellsTable : WriteAsk → End → End → Result ToldCode Refusal → Type 0
TellsTable ask before after (Ok told) =
    (input : Bytes) × IsTaken before after input × TookPart (most_bytes + 1) before.bytes after.bytes × (table_asked ask input ≡ Ok (told_view told))
TellsTable ask before after (Err NoMemory) = TookPart (most_bytes + 1) before.bytes after.bytes
TellsTable ask before after (Err Unread) = TookPart (most_bytes + 1) before.bytes after.bytes × (one_more before.faults ≤ after.faults)
TellsTable ask before after (Err (NoTable fault)) = (input : Bytes) × IsTaken before after input × (table_asked ask input ≡ Err (fault_view fault))
TellsTable ask before after (Err _) = ⊥

-- bytes are kept under the path that is asked, or why they aren't
abbrev pub KeepsBytes : WriteAsk → Bytes → FilesEnd → FilesEnd → Result (Unit {0}) Refusal → Type 0
KeepsBytes ask bytes files now (Ok done) = IsKept ask.path bytes ask.replaces files.kept now.kept × (now.faults ≡ files.faults)
KeepsBytes ask bytes files now (Err NoMemory) = AreUntouched files now
KeepsBytes ask bytes files now (Err Exists) = (ask.replaces ≡ false) × MayStand (files.kept ask.path) × AreUntouched files now
KeepsBytes ask bytes files now (Err NotKept) = KeepsNothing files.kept now.kept × (one_more files.faults ≤ now.faults)
KeepsBytes ask bytes files now (Err _) = ⊥

-- files are kept in the folder that is asked, or why they aren't
abbrev pub KeepsNamed : WriteAsk → List NamedFile → FilesEnd → FilesEnd → Result (Unit {0}) Refusal → Type 0
KeepsNamed ask named files now (Ok done) = IsFolderKept ask.path named ask.replaces files.kept now.kept × (now.faults ≡ files.faults)
KeepsNamed ask named files now (Err NoMemory) = AreUntouched files now
KeepsNamed ask named files now (Err Exists) = (ask.replaces ≡ false) × MayStandIn ask.path files.kept × AreUntouched files now
KeepsNamed ask named files now (Err NotKept) = KeepsNothing files.kept now.kept × (one_more files.faults ≤ now.faults)
KeepsNamed ask named files now (Err _) = ⊥

-- a table is kept, as a file or in a folder, or why it isn't
abbrev pub KeepsTable : Bool → WriteAsk → ToldTable → FilesEnd → FilesEnd → Result (Unit {0}) Refusal → Type 0
KeepsTable folder ask told files now (Ok done) = IsKeptAs folder ask told files now × (now.faults ≡ files.faults)
KeepsTable folder ask told files now (Err NoMemory) = AreUntouched files now
KeepsTable folder ask told files now (Err TooLong) = IsTooLong folder (rows_cut ask) told × AreUntouched files now
KeepsTable folder ask told files now (Err Exists) = (ask.replaces ≡ false) × StandsAt folder ask.path files × AreUntouched files now
KeepsTable folder ask told files now (Err NotKept) = KeepsNothing files.kept now.kept × (one_more files.faults ≤ now.faults)
KeepsTable folder ask told files now (Err _) = ⊥
