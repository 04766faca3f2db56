-- How a run goes through the blocks of a table in their order: what it reads, writes and counts, and how it ends.
use Rattle.std.specs.Prelude.{◌≡◌, ◌⊎◌, ℕ, ◌+◌, ◌-◌, ◌^◌, ◌<◌, ◌≤◌, min, Bool, true, false, List, [], ◌∷◌, ◌++◌, map, length, Option, Some, None, Result, Ok, Err}
use Rattle.std.specs.List.{list_any, sum}
use Rattle.vx_dtype.specs.Types.{Ty}
use Rattle.vx_dtype.specs.TypeRules.{field_names}
use Rattle.vx_dtype.specs.Values.{Val}
use Rattle.vx_expr.specs.Trees.{Tree}
use Rattle.vx_io.specs.Counts.{one_more}
use Rattle.vx_io.specs.Ends.{Added, AddedPrefix}
use Rattle.vx_semantics.specs.Tables.{Table, Zones, row_type}
use Rattle.vx_semantics.specs.Scans.{block_phases, kept_of, read_columns}
use Rattle.vx_scan.specs.BlockRuns.{Runs}
use Rattle.vx_scan.specs.ErrorKinds.{ErrorKind, of_memory, of_break, of_read, kind_of}
use Rattle.vx_scan.specs.Stores.{Read, StoreSeen}
use Rattle.vx_scan.specs.declared.errors.ScanError.{ScanError}
use Rattle.vx_laws_shell.specs.Answers.{Answer, answer_found, first_of_rows, found_in_order, rows_in, scanned_of}
use Rattle.vx_laws_shell.specs.Lines.{Counts, row_lines}
use Rattle.vx_laws_shell.specs.Running.{End}

-- how far a run has come: the store and the output as they are seen, how many rows were written, and how many blocks were scanned
pub record Progress : Type 0 where
  pub store : StoreSeen
  pub output : End
  pub rows : ℕ
  pub scanned : ℕ

-- how a run ends: its rows were written whole; a sum or a cast had no value; a column wasn't read; there was no memory; or a write failed
pub data RunEnd : Type 0 where
  finished : RunEnd
  without_value : RunEnd
  without_column : RunEnd
  without_room : RunEnd
  without_output : RunEnd

-- how a run ends that an error of a kind stops in a block
abbrev pub StopsBy : ErrorKind → RunEnd → Type 0
StopsBy of_memory end = end ≡ without_room
StopsBy (of_break cause) end = end ≡ without_value
StopsBy of_read end = end ≡ without_column
StopsBy _ end = ⊥

-- how a run ends that didn't write the rows of a block whole
abbrev pub CutsBy : RunEnd → End → End → Type 0
CutsBy without_room before after = Unit {0}
CutsBy without_output before after = one_more before.faults ≤ after.faults
CutsBy _ before after = ⊥

-- the run of a block, through its phases
abbrev pub BlockRan : Ty → Tree → Tree → ℕ × List Val → Progress → Progress → Result (Unit {0}) ScanError → Type 0
BlockRan t f p block before after result = Runs t [] (block_phases t [] f p block) before.store.log after.store.log after.store.failed result

-- an error stopped the run in a block: nothing of the block is written
pub record StopsIn (t : Ty) (f p : Tree) (block : ℕ × List Val) (before after : Progress) (end : RunEnd) : Type 0 where
  pub error : ScanError
  pub ran : BlockRan t f p block before after (Err error)
  pub stops : StopsBy (kind_of error) end
  pub unwritten : after.output ≡ before.output

-- of the rows that a block gives those that are wanted weren't written whole
pub record CutsIn (t : Ty) (f p : Tree) (limit : Option ℕ) (block : ℕ × List Val) (before after : Progress) (end : RunEnd) : Type 0 where
  pub ran : BlockRan t f p block before after (Ok tt)
  pub part : AddedPrefix before.output.bytes after.output.bytes (row_lines (first_of_rows limit (rows_in t f p block)))
  pub cuts : CutsBy end before.output after.output

-- the number of rows with so many more: it stays at its greatest value
abbrev pub more_rows : ℕ → ℕ → ℕ
more_rows n more = min (n + more) (2 ^ 64 - 1)

-- they were written whole, and counted
pub record WritesIn (t : Ty) (f p : Tree) (limit : Option ℕ) (block : ℕ × List Val) (before after : Progress) : Type 0 where
  pub ran : BlockRan t f p block before after (Ok tt)
  pub whole : Added before.output.bytes after.output.bytes (row_lines (first_of_rows limit (rows_in t f p block)))
  pub later : before.output.faults ≤ after.output.faults
  pub rows : after.rows ≡ more_rows before.rows (length (first_of_rows limit (rows_in t f p block)))
  pub scanned : after.scanned ≡ before.scanned + 1

-- of so many rows how many are wanted, and how many are wanted behind them
abbrev pub wanted_among : Option ℕ → ℕ → ℕ
wanted_among None rows = rows
wanted_among (Some n) rows = min n rows

abbrev pub limit_behind : Option ℕ → ℕ → Option ℕ
limit_behind None rows = None
limit_behind (Some n) rows = Some (n - rows)

-- a run over blocks, of whose rows so many are wanted: it ends in the first of them, or writes the rows of it and goes on over the others
abbrev pub RunsOver : Ty → Tree → Tree → Option ℕ → List (ℕ × List Val) → Progress → Progress → RunEnd → Type 0
RunsOver t f p limit [] before after end = (end ≡ finished) × (after ≡ before)
RunsOver t f p limit (block ∷ blocks) before after end =
    StopsIn t f p block before after end
    ⊎ (CutsIn t f p limit block before after end
    ⊎ ((middle : Progress) × WritesIn t f p limit block before middle
    × RunsOver t f p (limit_behind limit (length (rows_in t f p block))) blocks middle after end))

-- the blocks of a table that a run scans where nothing stops it
abbrev pub blocks_scanned : Table → Zones → Tree → Tree → Option ℕ → List (ℕ × List Val)
blocks_scanned table zones f p limit = scanned_of (row_type table.columns) f p limit (kept_of table zones [] f)

-- what is counted of a run over a table that made these reads, skipped so many blocks, and wrote so many rows
abbrev pub counts_by : Table → List Read → ℕ → ℕ → Counts
counts_by table made skipped rows =
    record {
      blocks = length table.blocks;
      skipped = skipped;
      columns = length (field_names table.columns);
      columns_read = length (read_columns table made);
      rows = rows;
    }

-- how an answer is written by a run that ends so, with these counts and this last read that failed: whole; whole as far as it goes; whole where that read is of
-- a damaged column, else first bytes of it; or first bytes of it, and no more for the reason that is told
abbrev pub WritesAnswer : RunEnd → (Read → Bool) → Answer → Counts → Option Read → End → End → Type 0
WritesAnswer finished is_damaged answer counts failed before after =
    (answer.status ≡ 0) × Added before.bytes after.bytes answer.output × (answer.counts ≡ Some counts)
WritesAnswer without_value is_damaged answer counts failed before after = (answer.status ≡ 5) × Added before.bytes after.bytes answer.output
WritesAnswer without_column is_damaged answer counts failed before after =
    (read : Read) × (failed ≡ Some read) × AddedPrefix before.bytes after.bytes answer.output
    × (is_damaged read ≡ true → (answer.status ≡ 3) × Added before.bytes after.bytes answer.output)
WritesAnswer without_room is_damaged answer counts failed before after = AddedPrefix before.bytes after.bytes answer.output
WritesAnswer without_output is_damaged answer counts failed before after =
    AddedPrefix before.bytes after.bytes answer.output × (one_more before.faults ≤ after.faults)

-- of a table with fewer than 2 ^ 64 rows a run through its blocks in order writes the answer, whichever columns are damaged that weren't read
abbrev pub OrderedRunsWriteAnswers : Type 0
OrderedRunsWriteAnswers =
    (is_damaged : Read → Bool) (table : Table) (zones : Zones) (f p : Tree) (limit : Option ℕ) (before after : Progress) (made : List Read) (end : RunEnd)
    → sum (map length table.blocks) < 2 ^ 64 → before.rows ≡ 0 → before.scanned ≡ 0
    → RunsOver (row_type table.columns) f p limit (blocks_scanned table zones f p limit) before after end
    → after.store.log ≡ before.store.log ++ made → list_any is_damaged made ≡ false
    → WritesAnswer end is_damaged (answer_found is_damaged table (found_in_order is_damaged table zones f p limit))
    (counts_by table made (length table.blocks - after.scanned) after.rows) after.store.failed before.output after.output
