-- The table of a folder: the blocks of its files, one file after another. What is answered over it is what is answered over the files, in their order.
use Rattle.std.specs.Prelude.{◌≡◌, ℕ, ◌+◌, nat_eq, Bool, false, cond, List, [], ◌∷◌, ◌++◌, map, length, None, IfOk}
use Rattle.std.specs.List.{AllByRecursion, flat_map, list_any, sum}
use Rattle.vx_dtype.specs.Types.{Bytes}
use Rattle.vx_expr.specs.Trees.{Tree}
use Rattle.vx_semantics.specs.Breaks.{Cause}
use Rattle.vx_semantics.specs.Honest.{IsHonest}
use Rattle.vx_semantics.specs.Meaning.{Slots}
use Rattle.vx_semantics.specs.Tables.{Table, ZoneStat, Zones, row_type}
use Rattle.vx_semantics.specs.Scans.{rows_of, kept_rows_of, skipped_blocks, phases_of, reads_of, some_phase_breaks, first_breaks_by}
use Rattle.vx_laws_stats.specs.BuiltLaws.{path_and_stat}
use Rattle.vx_laws_stats.specs.BuiltStatistics.{built_zones}
use Rattle.vx_scan.specs.Cutting.{shifted_reads}
use Rattle.vx_scan.specs.Stores.{Read}
use Rattle.vx_laws_statements.specs.Statements.{plan_of}
use Rattle.vx_laws_shell.specs.Answers.{Answer, answer_found, answer_of_statement, found_in_order}

-- ---- files as one table

-- a file of a folder: its table, with the table's statistics
pub record TableFile : Type 0 where
  pub table : Table
  pub zones : Zones

-- statistics with the values of those that stand at their places among others behind their own
abbrev pub stat_before : ZoneStat → ZoneStat → ZoneStat
stat_before z other = record { path = z.path; stat = z.stat; values = z.values ++ other.values }

abbrev pub stats_before : List ZoneStat → List ZoneStat → List ZoneStat
stats_before (z ∷ zs) (other ∷ others) = stat_before z other ∷ stats_before zs others
stats_before _ _ = []

-- a file with the blocks of another one behind its own
abbrev pub table_before : Table → Table → Table
table_before table other = record { columns = table.columns; blocks = table.blocks ++ other.blocks }

abbrev pub zones_before : Zones → Zones → Zones
zones_before zones other =
    record { columns = zones.columns; lengths = zones.lengths ++ other.lengths; stats = stats_before zones.stats other.stats }

abbrev pub file_before : TableFile → TableFile → TableFile
file_before file other = record { table = table_before file.table other.table; zones = zones_before file.zones other.zones }

-- a first file and others as one
abbrev pub files_joined : TableFile → List TableFile → TableFile
files_joined first [] = first
files_joined first (next ∷ files) = file_before first (files_joined next files)

-- the table of files, and its statistics
abbrev pub table_of_files : TableFile → List TableFile → Table
table_of_files first files = (files_joined first files).table

abbrev pub zones_of_files : TableFile → List TableFile → Zones
zones_of_files first files = (files_joined first files).zones

-- its blocks are those of the files, one file after another
abbrev pub FilesAreJoined : Type 0
FilesAreJoined =
    (first : TableFile) (files : List TableFile) → (table_of_files first files).blocks ≡ flat_map (λ file. file.table.blocks) (first ∷ files)

-- ---- files of one folder

-- the statistics of a file are those of its table: of its columns, and with a value for each block
pub record HasItsZones (file : TableFile) : Type 0 where
  pub columns : file.zones.columns ≡ file.table.columns
  pub blocks : length file.table.blocks ≡ length file.zones.lengths
  pub values : AllByRecursion (λ z. length z.values ≡ length file.zones.lengths) file.zones.stats

-- a file is of the form of another one: it has the same columns, and statistics of the same paths and kinds in the same order
pub record IsOfForm (form file : TableFile) : Type 0 where
  pub columns : file.table.columns ≡ form.table.columns
  pub stats : map path_and_stat file.zones.stats ≡ map path_and_stat form.zones.stats

-- files of one folder: each is of the form of the first
pub record AreOneFolder (first : TableFile) (files : List TableFile) : Type 0 where
  pub first_has : HasItsZones first
  pub each_has : AllByRecursion HasItsZones files
  pub forms : AllByRecursion (IsOfForm first) files

-- where the statistics of each file are honest, those of their table are
abbrev pub JoinedFilesAreHonest : Type 0
JoinedFilesAreHonest =
    (first : TableFile) (files : List TableFile) → AreOneFolder first files → IsHonest first.zones first.table
    → AllByRecursion (λ file. IsHonest file.zones file.table) files → IsHonest (zones_of_files first files) (table_of_files first files)

-- tables of the same columns, each with the statistics that it has, are of one folder
abbrev pub built_file : Table → TableFile
built_file table = record { table = table; zones = built_zones table }

abbrev pub BuiltFilesAreOneFolder : Type 0
BuiltFilesAreOneFolder =
    (first : Table) (tables : List Table) → AllByRecursion (λ table. table.columns ≡ first.columns) tables
    → AreOneFolder (built_file first) (map built_file tables)

-- and the statistics of their table are those that it has
abbrev pub BuiltFilesHaveBuiltStatistics : Type 0
BuiltFilesHaveBuiltStatistics =
    (first : Table) (tables : List Table) → AllByRecursion (λ table. table.columns ≡ first.columns) tables
    → zones_of_files (built_file first) (map built_file tables) ≡ built_zones (table_of_files (built_file first) (map built_file tables))

-- ---- scans

-- the reads of scans of files, in order: those of a file stand behind the blocks of the files before it
abbrev pub reads_in_turn : Slots → Tree → Tree → List TableFile → List Read
reads_in_turn slots f p [] = []
reads_in_turn slots f p (file ∷ files) =
    reads_of file.table file.zones slots f p ++ shifted_reads (length file.table.blocks) (reads_in_turn slots f p files)

-- whether some phase of the scan of a file breaks, and the first that does so breaks by this cause
abbrev pub breaks_first_by : Cause → Slots → Tree → Tree → TableFile → Bool
breaks_first_by c slots f p file = first_breaks_by c (row_type file.table.columns) slots (phases_of file.table file.zones slots f p)

-- whether some phase of the scan of some file breaks, and the first that does so of the first such file breaks by this cause
abbrev pub some_breaks_first_by : Cause → Slots → Tree → Tree → List TableFile → Bool
some_breaks_first_by c slots f p [] = false
some_breaks_first_by c slots f p (file ∷ files) =
    cond (some_phase_breaks file.table file.zones slots f p) (breaks_first_by c slots f p file) (some_breaks_first_by c slots f p files)

-- a scan of the table of files: its rows, kept or all, are those of scans of the files, one after another, and so are its reads; it skips as many blocks;
-- and some phase of it breaks exactly where one of a file does, and first as the first of the first such file
pub record IsOfFiles (first : TableFile) (files : List TableFile) (slots : Slots) (f p : Tree) : Type 0 where
  pub rows : rows_of (table_of_files first files) slots f p ≡ flat_map (λ file. rows_of file.table slots f p) (first ∷ files)
  pub kept_rows : kept_rows_of (table_of_files first files) (zones_of_files first files) slots f p
      ≡ flat_map (λ file. kept_rows_of file.table file.zones slots f p) (first ∷ files)
  pub reads : reads_of (table_of_files first files) (zones_of_files first files) slots f p ≡ reads_in_turn slots f p (first ∷ files)
  pub skipped : length (skipped_blocks (zones_of_files first files) slots f)
      ≡ sum (map (λ file. length (skipped_blocks file.zones slots f)) (first ∷ files))
  pub breaks : some_phase_breaks (table_of_files first files) (zones_of_files first files) slots f p
      ≡ list_any (λ file. some_phase_breaks file.table file.zones slots f p) (first ∷ files)
  pub first_break : (c : Cause) → breaks_first_by c slots f p (files_joined first files) ≡ some_breaks_first_by c slots f p (first ∷ files)

abbrev pub ScansOfFiles : Type 0
ScansOfFiles =
    (first : TableFile) (files : List TableFile) (slots : Slots) (f p : Tree) → AreOneFolder first files → IsOfFiles first files slots f p

-- ---- answers

-- which reads of the blocks behind so many are damaged
abbrev pub damaged_behind : ℕ → (Read → Bool) → Read → Bool
damaged_behind blocks is_damaged read = is_damaged (blocks + read.0, read.1)

-- answers over files in turn: the exit status is that of the first which isn't 0
abbrev pub status_in_turn : ((Read → Bool) → TableFile → Answer) → (Read → Bool) → List TableFile → ℕ
status_in_turn answer is_damaged [] = 0
status_in_turn answer is_damaged (file ∷ files) =
    cond (nat_eq (answer is_damaged file).status 0) (status_in_turn answer (damaged_behind (length file.table.blocks) is_damaged) files)
    (answer is_damaged file).status

-- and what is written is what they write, one behind another, up to the end of that one
abbrev pub output_in_turn : ((Read → Bool) → TableFile → Answer) → (Read → Bool) → List TableFile → Bytes
output_in_turn answer is_damaged [] = []
output_in_turn answer is_damaged (file ∷ files) =
    (answer is_damaged file).output
    ++ cond (nat_eq (answer is_damaged file).status 0) (output_in_turn answer (damaged_behind (length file.table.blocks) is_damaged) files) []

-- what is answered over the table of files is what is answered over them in turn
pub record IsInTurn (answer : (Read → Bool) → TableFile → Answer) (is_damaged : Read → Bool) (first : TableFile) (files : List TableFile) : Type 0 where
  pub status : (answer is_damaged (files_joined first files)).status ≡ status_in_turn answer is_damaged (first ∷ files)
  pub output : (answer is_damaged (files_joined first files)).output ≡ output_in_turn answer is_damaged (first ∷ files)

-- so it is in the table's order and without a limit
abbrev pub answer_of_file : Tree → Tree → (Read → Bool) → TableFile → Answer
answer_of_file f p is_damaged file = answer_found is_damaged file.table (found_in_order is_damaged file.table file.zones f p None)

abbrev pub AnswersOfFiles : Type 0
AnswersOfFiles =
    (is_damaged : Read → Bool) (first : TableFile) (files : List TableFile) (f p : Tree) → AreOneFolder first files
    → IsInTurn (answer_of_file f p) is_damaged first files

-- and with a statement that asks neither an order nor a limit
abbrev pub statement_over : Bytes → (Read → Bool) → TableFile → Answer
statement_over statement is_damaged file = answer_of_statement is_damaged file.table file.zones statement

abbrev pub StatementsOfFiles : Type 0
StatementsOfFiles =
    (is_damaged : Read → Bool) (first : TableFile) (files : List TableFile) (statement : Bytes) → AreOneFolder first files
    → IfOk (plan_of (row_type first.table.columns) statement) (λ plan. (plan.order ≡ None) × (plan.limit ≡ None))
    → IsInTurn (statement_over statement) is_damaged first files
