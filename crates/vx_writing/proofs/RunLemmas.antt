-- The steps of a run, put together.
use Rattle.std.proofs.Common.{◌≡◌, refl, ap, sym, subst, inl, inr, ℕ, ◌<◌, ◌≤◌, ◌+◌, Bool, true, false, cond, List, length, Option, Some, None, unwrap_or, Result, Ok, Err, le-leb, arith}
use Rattle.std.proofs.lemmas.Bool.{lt-leb}
use Rattle.vx_dtype.specs.Types.{Bytes, Fields}
use Rattle.vx_io.specs.Counts.{one_more}
use Rattle.vx_io.specs.Ends.{TookPart}
use Rattle.vx_io.specs.declared.reading.InputError.{InputError}
use Rattle.vx_io.specs.declared.reading.InputError.TheVariants as inputs
use Rattle.vx_request.specs.Requests.{most_bytes}
use Rattle.vx_request.specs.RequestViews.{RequestAnswers, told_view}
use Rattle.vx_request.specs.Tables.{ToldTable}
use Rattle.vx_request.specs.declared.tables.ToldTable.{ToldTable as ToldCode}
use Rattle.vx_request.specs.declared.errors.RequestError.{RequestError}
use Rattle.vx_request.specs.declared.errors.RequestError.TheVariants as requests
use Rattle.vx_laws_csv.specs.Refusals as reasons
use Rattle.vx_laws_csv.specs.CsvTables.{CsvTable}
use Rattle.vx_csv.specs.Views.{Refuses}
use Rattle.vx_csv.specs.declared.errors.CsvError.{CsvError}
use Rattle.vx_csv.specs.declared.errors.CsvError.TheVariants as texts
use Rattle.vx_files.specs.Keeping.{AnswersKeep}
use Rattle.vx_files.specs.FolderKeeping.{NamedFile, AnswersKeepFolder, is_folder}
use Rattle.vx_files.specs.declared.errors.KeepError.{KeepError}
use Rattle.vx_files.specs.declared.errors.KeepError.TheVariants as keeps
use Rattle.vx_laws_shell.specs.Running.{End, IsTaken}
use Rattle.vx_laws_writing.specs.WriteWords.{WriteAsk, of_csv, write_asked_of}
use Rattle.vx_laws_file.specs.FileForms.{most_rows}
use Rattle.vx_laws_writing.specs.Writing.{AreFilesOfParts, AreUntouched, FilesEnd, numbered_from, IsFileOf, IsWriteRun, misused, unread, untold, too_long, standing, unkept, written}
use Rattle.vx_laws_writing.specs.Writing.{csv_table, csv_told, json_told, long_text, rows_cut, rows_unnamed, table_asked, table_by}
use Rattle.vx_laws_writing.specs.WriteLaws.{Cuts}
use Rattle.vx_writing.specs.Making.{KeepsParts, MakesFile}
use Rattle.vx_writing.specs.WriteRefusals.{fault_view, input_refusal, keep_refusal, refusal_status, result_status, table_refusal, text_refusal}
use Rattle.vx_writing.specs.WriteSteps.{AnswersInput, TellsTable, KeepsBytes, KeepsNamed, KeepsTable}
use Rattle.vx_writing.specs.declared.errors.Refusal.{Refusal}
use Rattle.vx_writing.specs.declared.errors.Refusal.TheVariants as refusals

-- nothing was done
pub untouched : (files : FilesEnd) → AreUntouched files files
untouched files = record { kept = λ other. refl; quiet = refl }

-- nothing was taken
pub took_nothing : (bytes : Option Bytes) → TookPart (most_bytes + 1) bytes bytes
took_nothing None = refl
took_nothing (Some all) = (0, omega arith, omega arith, refl)

-- why the input isn't read
pub unread_so : (ask : WriteAsk) (x y : End) (e : InputError) → TookPart (most_bytes + 1) x.bytes y.bytes → (e ≡ inputs.ReadFault → one_more x.faults ≤ y.faults)
    → TellsTable ask x y (Err (input_refusal e))
unread_so ask x y inputs.NoMemory part cause = part
unread_so ask x y inputs.ReadFault part cause = (part, cause refl)

-- what the bytes of the input tell
pub told_so : (ask : WriteAsk) (x y : End) (input : Bytes) (r : Result ToldCode Refusal) → TookPart (most_bytes + 1) x.bytes y.bytes → IsTaken x y input → AnswersInput (table_asked ask input) r
    → TellsTable ask x y r
told_so ask x y input (Ok told) part taken h = (input, taken, part, h)
told_so ask x y input (Err refusals.NoMemory) part taken h = part
told_so ask x y input (Err (refusals.NoTable fault)) part taken h = (input, taken, h)
told_so ask x y input (Err refusals.Usage) part taken h = absurd h
told_so ask x y input (Err refusals.Unread) part taken h = absurd h
told_so ask x y input (Err refusals.TooLong) part taken h = absurd h
told_so ask x y input (Err refusals.Exists) part taken h = absurd h
told_so ask x y input (Err refusals.NotKept) part taken h = absurd h

-- why it tells no table as JSON
pub no_json_so : (told : Result ToldTable RequestError) (e : RequestError) → RequestAnswers told_view told (Err e) → AnswersInput (json_told told) (Err (table_refusal e))
no_json_so told requests.NoMemory h = tt
no_json_so told requests.InputTooLong h = ap json_told h
no_json_so told requests.BadJson h = ap json_told h
no_json_so told (requests.BadRequest place) h = ap json_told h
no_json_so told (requests.BadHex side) h = ap json_told h
no_json_so told (requests.BadTable refusal) h = ap json_told h

-- what it tells as a text of CSV, within the length of an input, and why it tells none
pub csv_within : (most : ℕ) (null : Bytes) (columns : Option Fields) (rows : Option ℕ) (input : Bytes) → length input ≤ most_bytes
    → table_by most (of_csv null columns) rows input ≡ csv_told (csv_table most null columns (unwrap_or rows rows_unnamed) input)
csv_within most null columns rows input h =
    ap (λ b. cond b (csv_told (csv_table most null columns (unwrap_or rows rows_unnamed) input)) (Err long_text)) (le-leb (length input) most_bytes h)

pub csv_past : (most : ℕ) (null : Bytes) (columns : Option Fields) (rows : Option ℕ) (input : Bytes) → most_bytes < length input → table_by most (of_csv null columns) rows input ≡ Err long_text
csv_past most null columns rows input h =
    ap (λ b. cond b (csv_told (csv_table most null columns (unwrap_or rows rows_unnamed) input)) (Err long_text)) (lt-leb (length input) most_bytes h)

pub size_cuts : (rows : Option ℕ) → Cuts rows → 0 < unwrap_or rows rows_unnamed
size_cuts None h = omega arith
size_cuts (Some n) h = h

pub no_csv_so : (given : Result CsvTable reasons.Refusal) (e : CsvError) → Refuses given e → AnswersInput (csv_told given) (Err (text_refusal e))
no_csv_so given texts.NoMemory h = tt
no_csv_so given (texts.Refused refusal) h = ap csv_told h

-- why bytes aren't kept
pub unkept_so : (ask : WriteAsk) (bytes : Bytes) (f g : FilesEnd) (e : KeepError) → AnswersKeep ask.path bytes ask.replaces f.kept g.kept f.faults g.faults (Err e) → KeepsBytes ask bytes f g (Err (keep_refusal e))
unkept_so ask bytes f g keeps.NoMemory h = record { kept = h.0; quiet = h.1 }
unkept_so ask bytes f g keeps.Exists h = (h.0, h.1, record { kept = h.2; quiet = h.3 })
unkept_so ask bytes f g keeps.NotKept h = h

-- why files of a folder aren't kept
pub unnamed_so : (ask : WriteAsk) (named : List NamedFile) (f g : FilesEnd) (e : KeepError) → AnswersKeepFolder ask.path named ask.replaces f.kept g.kept f.faults g.faults (Err e)
    → KeepsNamed ask named f g (Err (keep_refusal e))
unnamed_so ask named f g keeps.NoMemory h = record { kept = h.0; quiet = h.1 }
unnamed_so ask named f g keeps.Exists h = (h.0, h.1, record { kept = h.2; quiet = h.3 })
unnamed_so ask named f g keeps.NotKept h = h

-- the bytes of the file of a table, kept or not
pub kept_so : (ask : WriteAsk) (told : ToldTable) (bytes : Bytes) (f g : FilesEnd) (r : Result (Unit {0}) Refusal) → IsFileOf (rows_cut ask) told bytes → KeepsBytes ask bytes f g r
    → KeepsTable false ask told f g r
kept_so ask told bytes f g (Ok done) file h = ((bytes, file, h.0), h.1)
kept_so ask told bytes f g (Err refusals.NoMemory) file h = h
kept_so ask told bytes f g (Err refusals.Exists) file h = h
kept_so ask told bytes f g (Err refusals.NotKept) file h = h
kept_so ask told bytes f g (Err refusals.Usage) file h = absurd h
kept_so ask told bytes f g (Err refusals.Unread) file h = absurd h
kept_so ask told bytes f g (Err (refusals.NoTable e)) file h = absurd h
kept_so ask told bytes f g (Err refusals.TooLong) file h = absurd h

-- the bytes of the files of a table, kept in a folder or not
pub folder_so : (ask : WriteAsk) (told : ToldTable) (kept : List Bytes) (f g : FilesEnd) (r : Result (Unit {0}) Refusal) → AreFilesOfParts most_rows (rows_cut ask) told kept
    → KeepsNamed ask (numbered_from 0 kept) f g r → KeepsTable true ask told f g r
folder_so ask told kept f g (Ok done) files h = ((kept, files, h.0), h.1)
folder_so ask told kept f g (Err refusals.NoMemory) files h = h
folder_so ask told kept f g (Err refusals.Exists) files h = h
folder_so ask told kept f g (Err refusals.NotKept) files h = h
folder_so ask told kept f g (Err refusals.Usage) files h = absurd h
folder_so ask told kept f g (Err refusals.Unread) files h = absurd h
folder_so ask told kept f g (Err (refusals.NoTable e)) files h = absurd h
folder_so ask told kept f g (Err refusals.TooLong) files h = absurd h

-- what is kept of the same bytes and of the same files, and whether it is a file or a folder
pub same_bytes_so : (ask : WriteAsk) (given bytes : Bytes) (f g : FilesEnd) (r : Result (Unit {0}) Refusal) → given ≡ bytes → KeepsBytes ask given f g r → KeepsBytes ask bytes f g r
same_bytes_so ask given bytes f g r e h = subst (λ (bs : Bytes). KeepsBytes ask bs f g r) e h

pub same_files_so : (ask : WriteAsk) (given files : List NamedFile) (f g : FilesEnd) (r : Result (Unit {0}) Refusal) → given ≡ files → KeepsNamed ask given f g r → KeepsNamed ask files f g r
same_files_so ask given files f g r e h = subst (λ (named : List NamedFile). KeepsNamed ask named f g r) e h

pub same_kind_so : (folder kind : Bool) (ask : WriteAsk) (told : ToldTable) (f g : FilesEnd) (r : Result (Unit {0}) Refusal) → folder ≡ kind → KeepsTable kind ask told f g r
    → KeepsTable folder ask told f g r
same_kind_so folder kind ask told f g r e h = subst (λ (b : Bool). KeepsTable b ask told f g r) (sym e) h

-- a table without a file, and without files
pub unmade_so : (ask : WriteAsk) (told : ToldTable) (f : FilesEnd) (r : Refusal) → MakesFile (rows_cut ask) told (Err r) → KeepsTable false ask told f f (Err r)
unmade_so ask told f refusals.NoMemory h = untouched f
unmade_so ask told f refusals.TooLong h = (h, untouched f)
unmade_so ask told f refusals.Usage h = absurd h
unmade_so ask told f refusals.Unread h = absurd h
unmade_so ask told f (refusals.NoTable e) h = absurd h
unmade_so ask told f refusals.Exists h = absurd h
unmade_so ask told f refusals.NotKept h = absurd h

pub unparted_so : (ask : WriteAsk) (told : ToldTable) (f : FilesEnd) (r : Refusal) → KeepsParts most_rows (rows_cut ask) told (Err r) → KeepsTable true ask told f f (Err r)
unparted_so ask told f refusals.NoMemory h = untouched f
unparted_so ask told f refusals.TooLong h = (h, untouched f)
unparted_so ask told f refusals.Usage h = absurd h
unparted_so ask told f refusals.Unread h = absurd h
unparted_so ask told f (refusals.NoTable e) h = absurd h
unparted_so ask told f refusals.Exists h = absurd h
unparted_so ask told f refusals.NotKept h = absurd h

-- a run without memory for the words
pub run_wordless : (words : List Bytes) (x : End) (f : FilesEnd) → IsWriteRun words x x f f 8
run_wordless words x f = inr (record { told = refl; part = took_nothing x.bytes; untouched = untouched f })

-- a run of words without form
pub run_misused : (words : List Bytes) (x : End) (f : FilesEnd) → write_asked_of words ≡ None → IsWriteRun words x x f f 2
run_misused words x f form = inl (record { outcome = misused; is = (form, refl, untouched f); told = refl })

-- a run that took no table
pub run_untold : (words : List Bytes) (x y : End) (f : FilesEnd) (ask : WriteAsk) (r : Refusal) → write_asked_of words ≡ Some ask → TellsTable ask x y (Err r) → IsWriteRun words x y f f (refusal_status r)
run_untold words x y f ask refusals.NoMemory form h = inr (record { told = refl; part = h; untouched = untouched f })
run_untold words x y f ask refusals.Unread form h = inl (record { outcome = unread; is = (ask, form, h.0, h.1, untouched f); told = refl })
run_untold words x y f ask (refusals.NoTable e) form h =
    inl (record { outcome = untold (fault_view e); is = (ask, h.0, record { form = form; taken = h.1 }, h.2, untouched f); told = refl })
run_untold words x y f ask refusals.Usage form h = absurd h
run_untold words x y f ask refusals.TooLong form h = absurd h
run_untold words x y f ask refusals.Exists form h = absurd h
run_untold words x y f ask refusals.NotKept form h = absurd h

-- a run that took one
pub run_told : (words : List Bytes) (x y : End) (f g : FilesEnd) (ask : WriteAsk) (told : ToldTable) (input : Bytes) (r : Result (Unit {0}) Refusal) → write_asked_of words ≡ Some ask → IsTaken x y input
    → TookPart (most_bytes + 1) x.bytes y.bytes → table_asked ask input ≡ Ok told → KeepsTable (is_folder ask.path) ask told f g r → IsWriteRun words x y f g (result_status r)
run_told words x y f g ask told input (Ok done) form taken part tells h =
    inl (record { outcome = written; is = (ask, told, record { input = input; takes = record { form = form; taken = taken }; tells = tells }, h.0, h.1); told = refl })
run_told words x y f g ask told input (Err refusals.NoMemory) form taken part tells h = inr (record { told = refl; part = part; untouched = h })
run_told words x y f g ask told input (Err refusals.TooLong) form taken part tells h =
    inl (record { outcome = too_long; is = (ask, told, record { input = input; takes = record { form = form; taken = taken }; tells = tells }, h.0, h.1); told = refl })
run_told words x y f g ask told input (Err refusals.Exists) form taken part tells h =
    inl (record { outcome = standing; is = (ask, told, record { input = input; takes = record { form = form; taken = taken }; tells = tells }, h.0, h.1, h.2); told = refl })
run_told words x y f g ask told input (Err refusals.NotKept) form taken part tells h =
    inl (record { outcome = unkept; is = (ask, told, record { input = input; takes = record { form = form; taken = taken }; tells = tells }, h.0, h.1); told = refl })
run_told words x y f g ask told input (Err refusals.Usage) form taken part tells h = absurd h
run_told words x y f g ask told input (Err refusals.Unread) form taken part tells h = absurd h
run_told words x y f g ask told input (Err (refusals.NoTable e)) form taken part tells h = absurd h
