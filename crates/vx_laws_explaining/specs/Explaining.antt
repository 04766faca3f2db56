-- What a run of the words of `explain sql` is, over the files that it can open, the end that it reads and the two that it writes.
use Rattle.std.specs.Prelude.{◌≡◌, ◌⊎◌, ℕ, ◌+◌, ◌≤◌, List, ◌++◌, codes, decimal, Option, Some, None, Ok, Err}
use Rattle.vx_dtype.specs.Types.{Bytes, Fields, no_fields}
use Rattle.vx_semantics.specs.Tables.{Zones, row_type}
use Rattle.vx_io.specs.Counts.{one_more}
use Rattle.vx_io.specs.Ends.{Added, AddedPrefix, TookPart}
use Rattle.vx_request.specs.Requests.{most_bytes}
use Rattle.vx_request.specs.Tables.{ToldTable, told_table}
use Rattle.vx_request.specs.declared.errors.Place.{Place}
use Rattle.vx_request.specs.declared.errors.Place.TheVariants as places
use Rattle.vx_request.specs.declared.errors.Side.{Side}
use Rattle.vx_request.specs.declared.errors.Side.TheVariants as sides
use Rattle.vx_request.specs.declared.errors.TableRefusal.{TableRefusal}
use Rattle.vx_request.specs.declared.errors.TableRefusal.TheVariants as tables
use Rattle.vx_request.specs.declared.errors.RequestError.{RequestError}
use Rattle.vx_request.specs.declared.errors.RequestError.TheVariants as requests
use Rattle.vx_laws_file.specs.FileForms.{FileContent}
use Rattle.vx_laws_file.specs.Opening.{FileRefusal, IsRefusedFile}
use Rattle.vx_laws_statements.specs.Refusals.{StatementRefusal}
use Rattle.vx_laws_statements.specs.TableNames.{table_named}
use Rattle.vx_sql_lines.specs.Lines.{line_of}
use Rattle.vx_laws_shell.specs.Origins.{Origin, standard_input, block_file, folder, origin_of}
use Rattle.vx_laws_shell.specs.Paths.{Paths, WhereKept, CannotOpen, WhereEachKept, CannotList}
use Rattle.vx_laws_shell.specs.FolderContents.{contents_joined, HoldTogether, FolderFault, kept_in, IsFolderFault, WhereFiles}
use Rattle.vx_laws_shell.specs.FolderLines.{folder_text}
use Rattle.vx_laws_shell.specs.Running.{End, IsTaken, fault_status}
use Rattle.vx_laws_shell.specs.Wants.{OrderRefusal, unlimited, too_many}
use Rattle.vx_laws_listing.specs.Listing.{AreSoundZones, AreZonesOfPath, IsToldBy, misfiled_line}
use Rattle.vx_laws_explaining.specs.ExplainingWords.{Asked, explaining_asked_of}
use Rattle.vx_laws_explaining.specs.Explanations.{Unexplained, unplanned, unwanted, explanation_of}

-- how a run ends: words of no form; a statement that names no table; a path that can't be opened; a folder that can't be listed; a read that failed; an input
-- that tells no table; bytes that are no block file; files of a folder that are no table; a statement that isn't explained over the table's columns; a write that
-- failed; no memory; or the explanation, written whole
pub data ExplainingEnd : Type 0 where
  misused : ExplainingEnd
  unnamed : Bytes → StatementRefusal → ExplainingEnd
  unopened : Bytes → ExplainingEnd
  unlisted : ExplainingEnd
  unread : ExplainingEnd
  untold : RequestError → ExplainingEnd
  misfiled : FileRefusal → ExplainingEnd
  mixed : FolderFault → ExplainingEnd
  unexplained : Bytes → Fields → Unexplained → ExplainingEnd
  unwritten : ExplainingEnd
  without_memory : ExplainingEnd
  explained : ExplainingEnd

-- the exit status of an end
abbrev pub explaining_status : ExplainingEnd → ℕ
explaining_status misused = 2
explaining_status (unnamed statement r) = 4
explaining_status (unopened path) = 6
explaining_status unlisted = 6
explaining_status unread = 6
explaining_status (untold e) = 3
explaining_status (misfiled r) = 3
explaining_status (mixed fault) = fault_status fault
explaining_status (unexplained statement columns r) = 4
explaining_status unwritten = 7
explaining_status without_memory = 8
explaining_status explained = 0

-- ---- what is told on standard error

-- a text as the line of an error
abbrev pub error_line : Bytes → Bytes
error_line text = codes "error: " ++ (text ++ codes "\n")

-- why an input tells no table, by its name
abbrev pub place_reason : Place → Bytes
place_reason places.Top = codes "BadRequest(Top)"
place_reason places.Columns = codes "BadRequest(Columns)"
place_reason places.Blocks = codes "BadRequest(Blocks)"
place_reason places.Stats = codes "BadRequest(Stats)"
place_reason places.Filter = codes "BadRequest(Filter)"
place_reason places.Projection = codes "BadRequest(Projection)"

abbrev pub side_reason : Side → Bytes
side_reason sides.Filter = codes "BadHex(Filter)"
side_reason sides.Projection = codes "BadHex(Projection)"

abbrev pub table_reason : TableRefusal → Bytes
table_reason tables.DuplicateName = codes "BadTable(DuplicateName)"
table_reason tables.DeepType = codes "BadTable(DeepType)"
table_reason tables.BadStatPath = codes "BadTable(BadStatPath)"
table_reason tables.DuplicateStat = codes "BadTable(DuplicateStat)"
table_reason tables.WrongStatCount = codes "BadTable(WrongStatCount)"
table_reason tables.WrongStatType = codes "BadTable(WrongStatType)"
table_reason tables.WrongLength = codes "BadTable(WrongLength)"
table_reason tables.WrongValue = codes "BadTable(WrongValue)"

abbrev pub untold_reason : RequestError → Bytes
untold_reason requests.NoMemory = codes "NoMemory"
untold_reason requests.InputTooLong = codes "InputTooLong"
untold_reason requests.BadJson = codes "BadJson"
untold_reason (requests.BadRequest place) = place_reason place
untold_reason (requests.BadHex side) = side_reason side
untold_reason (requests.BadTable refusal) = table_reason refusal

abbrev pub untold_line : RequestError → Bytes
untold_line e = codes "error: stdin is no table: " ++ (untold_reason e ++ codes "\n")

-- why the rows of a statement aren't wanted
abbrev pub unwanted_line : OrderRefusal → Bytes
unwanted_line unlimited = codes "error: ORDER BY needs a LIMIT\n"
unwanted_line (too_many count) = codes "error: LIMIT " ++ (decimal count ++ codes ": behind ORDER BY it is 1048576 at most\n")

-- why a statement isn't explained over a table of these columns
abbrev pub unexplained_line : Bytes → Fields → Unexplained → Bytes
unexplained_line statement columns (unplanned r) = error_line (line_of statement (row_type columns) r)
unexplained_line statement columns (unwanted r) = unwanted_line r

abbrev pub unopened_line : Bytes → Bytes
unopened_line path = codes "error: " ++ (path ++ codes " can't be opened\n")

-- the line that an end tells on standard error; none where there is nothing to tell, and where the output isn't taken any more
abbrev pub explaining_told : ExplainingEnd → Option Bytes
explaining_told misused = Some (codes "error: usage: explain sql STATEMENT [--json | --svg]\n")
explaining_told (unnamed statement r) = Some (error_line (line_of statement (row_type no_fields) r))
explaining_told (unopened path) = Some (unopened_line path)
explaining_told unlisted = Some (codes "error: the folder can't be listed\n")
explaining_told unread = Some (codes "error: a read failed\n")
explaining_told (untold e) = Some (untold_line e)
explaining_told (misfiled r) = Some (misfiled_line r)
explaining_told (mixed fault) = Some (error_line (folder_text fault))
explaining_told (unexplained statement columns r) = Some (unexplained_line statement columns r)
explaining_told unwritten = None
explaining_told without_memory = Some (codes "error: there is no memory\n")
explaining_told explained = None

-- ---- what ends say

-- the words ask this of a table of this name
pub record AskTable (words : List Bytes) (asked : Asked) (name : Bytes) : Type 0 where
  pub form : explaining_asked_of words ≡ Some asked
  pub named : table_named asked.statement ≡ Ok name

-- the words ask a table whose bytes are there
pub record AskOrigin (words : List Bytes) (asked : Asked) (origin : Origin) : Type 0 where
  pub name : Bytes
  pub asks : AskTable words asked name
  pub is : origin_of name ≡ origin

-- the words ask a table of the standard input, of which this was taken
pub record TakesTable (words : List Bytes) (before after : End) (asked : Asked) (input : Bytes) : Type 0 where
  pub asks : AskOrigin words asked standard_input
  pub taken : IsTaken before after input

-- the words ask a block file of a path; of the standard input nothing is taken
pub record AsksFile (words : List Bytes) (before after : End) (asked : Asked) (path : Bytes) : Type 0 where
  pub asks : AskOrigin words asked (block_file path)
  pub untaken : after ≡ before

-- the words ask the block files of the folder of a path; of the standard input nothing is taken
pub record AsksFolder (words : List Bytes) (before after : End) (asked : Asked) (path : Bytes) : Type 0 where
  pub asks : AskOrigin words asked (folder path)
  pub untaken : after ≡ before

-- the zones of the table that files hold together
pub record AreZonesOfFiles (zones : Zones) (files : List Bytes) : Type 0 where
  pub first : FileContent
  pub contents : List FileContent
  pub together : HoldTogether files first contents
  pub zones_are : (contents_joined first contents).zones ≡ zones

-- the zones of the table of a folder's block files, as far as it is known what stands there and what each of them is
pub record AreZonesOfFolder (paths : Paths) (path : Bytes) (zones : Zones) : Type 0 where
  pub held : WhereFiles paths path (λ names. WhereEachKept (kept_in paths.kept path names) (AreZonesOfFiles zones))
  pub sound : AreSoundZones zones

-- the zones of the table that words ask, which the standard input tells, the file of a path holds, or the block files of a folder hold together
abbrev pub AreAskedZones : List Bytes → Paths → End → End → Asked → Zones → Type 0
AreAskedZones words paths before after asked zones =
    ((input : Bytes) × (told : ToldTable) × TakesTable words before after asked input × (told_table input ≡ Ok told) × (zones ≡ told.zones))
    ⊎ (((path : Bytes) × AsksFile words before after asked path × AreZonesOfPath (paths.kept path) zones)
    ⊎ ((path : Bytes) × AsksFolder words before after asked path × AreZonesOfFolder paths path zones))

-- the words ask an explanation over zones, and this text is it
pub record IsAskedText (words : List Bytes) (paths : Paths) (before after : End) (text : Bytes) : Type 0 where
  pub asked : Asked
  pub zones : Zones
  pub are : AreAskedZones words paths before after asked zones
  pub text_is : explanation_of zones asked ≡ Ok text

-- a read of the table that words ask failed: of the standard input, in this run; of a block file that may be there; or of one of a folder
abbrev pub IsUnread : List Bytes → Paths → End → End → Type 0
IsUnread words paths before after =
    ((asked : Asked) × AskOrigin words asked standard_input × TookPart (most_bytes + 1) before.bytes after.bytes × (one_more before.faults ≤ after.faults))
    ⊎ (((asked : Asked) × (path : Bytes) × AsksFile words before after asked path × WhereKept (paths.kept path) (λ bytes. Unit {0}))
    ⊎ ((asked : Asked) × (path : Bytes) × AsksFolder words before after asked path))

-- what an end says of the words, of what the paths lead to, of the standard input, and of the output
abbrev pub IsExplainingEnd : List Bytes → Paths → End → End → End → End → ExplainingEnd → Type 0
IsExplainingEnd words paths i j o p misused = (explaining_asked_of words ≡ None) × (j ≡ i) × (p ≡ o)
IsExplainingEnd words paths i j o p (unnamed statement r) =
    (asked : Asked) × (explaining_asked_of words ≡ Some asked) × (statement ≡ asked.statement) × (table_named statement ≡ Err r) × (j ≡ i) × (p ≡ o)
IsExplainingEnd words paths i j o p (unopened path) = (asked : Asked) × AsksFile words i j asked path × CannotOpen (paths.kept path) × (p ≡ o)
IsExplainingEnd words paths i j o p unlisted =
    (asked : Asked) × (path : Bytes) × AsksFolder words i j asked path × CannotList (paths.listed path) × (p ≡ o)
IsExplainingEnd words paths i j o p unread = IsUnread words paths i j × (p ≡ o)
IsExplainingEnd words paths i j o p (untold e) =
    (asked : Asked) × (input : Bytes) × TakesTable words i j asked input × (told_table input ≡ Err e) × (p ≡ o)
IsExplainingEnd words paths i j o p (misfiled r) =
    (asked : Asked) × (path : Bytes) × AsksFile words i j asked path × WhereKept (paths.kept path) (λ bytes. IsRefusedFile bytes r) × (p ≡ o)
IsExplainingEnd words paths i j o p (mixed fault) =
    (asked : Asked) × (path : Bytes) × AsksFolder words i j asked path × WhereFiles paths path (λ names. IsFolderFault paths.kept path names fault) × (p ≡ o)
IsExplainingEnd words paths i j o p (unexplained statement columns r) =
    (asked : Asked) × (zones : Zones) × AreAskedZones words paths i j asked zones × (statement ≡ asked.statement) × (columns ≡ zones.columns)
    × (explanation_of zones asked ≡ Err r) × (p ≡ o)
IsExplainingEnd words paths i j o p unwritten =
    (text : Bytes) × IsAskedText words paths i j text × AddedPrefix o.bytes p.bytes text × (one_more o.faults ≤ p.faults)
IsExplainingEnd words paths i j o p without_memory =
    TookPart (most_bytes + 1) i.bytes j.bytes × ((p ≡ o) ⊎ ((text : Bytes) × IsAskedText words paths i j text × AddedPrefix o.bytes p.bytes text))
IsExplainingEnd words paths i j o p explained = (text : Bytes) × IsAskedText words paths i j text × Added o.bytes p.bytes text

-- a run of the words of `explain sql`: its exit status, what it took of the input and wrote to the output, and what it told on standard error
pub record IsExplainingRun (words : List Bytes) (paths : Paths) (input_before input_after output_before output_after errors_before errors_after : End)
    (status : ℕ) : Type 0 where
  pub end : ExplainingEnd
  pub is : IsExplainingEnd words paths input_before input_after output_before output_after end
  pub status_is : status ≡ explaining_status end
  pub told : IsToldBy errors_before errors_after (explaining_told end)
