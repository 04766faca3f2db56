-- For the checker: no public clause cites this.
-- How a run in the table's order stands from block to block.
use Rattle.std.specs.Prelude.{◌≡◌, ℕ, ◌+◌, ◌-◌, ◌≤◌, nat_eq, Bool, false, cond, not, List, [], ◌∷◌, ◌++◌, length, drop, Option, Some, None, Result, Ok, Err}
use Rattle.std.specs.List.{filter, slice_get}
use Rattle.std.specs.declared.alloc.Global.{Global}
use Rattle.std.specs.declared.vec.Vec.{Vec}
use Rattle.vx_column.specs.Columns.{seen_rows}
use Rattle.vx_dtype.specs.Types.{Bytes, Ty}
use Rattle.vx_dtype.specs.Values.{Val}
use Rattle.vx_dtype.specs.declared.values.ScalarValue.{ScalarValue}
use Rattle.vx_expr.specs.Trees.{Tree}
use Rattle.vx_io.specs.Ends.{Added, AddedPrefix}
use Rattle.vx_laws_shell.specs.Answers.{first_of_rows, scanned_of}
use Rattle.vx_laws_shell.specs.Lines.{row_lines}
use Rattle.vx_laws_shell.specs.OrderedRuns.{Progress, RunEnd, RunsOver, more_rows, wanted_among, limit_behind}
use Rattle.vx_laws_shell.specs.Running.{End}
use Rattle.vx_scan.specs.BlockRuns.{RunsBlock}
use Rattle.vx_scan.specs.ErrorKinds.{kind_of}
use Rattle.vx_scan.specs.Stores.{Read, StoreSeen, IsSameStore}
use Rattle.vx_scan.specs.declared.errors.ScanError.{ScanError}
use Rattle.vx_semantics.specs.Pruning.{rules_out}
use Rattle.vx_semantics.specs.Tables.{Table, Zones, row_type, numbered_from}
use Rattle.vx_semantics.specs.Scans.{kept_of}
use Rattle.vx_shell.specs.declared.answers.Found.{Found}
use Rattle.vx_shell.specs.declared.errors.Refusal.{Refusal}
use Rattle.vx_shell.specs.declared.rows_in_order.Written.{Written}
use Rattle.vx_shell.specs.Refusals.{IsScanRefusal, CutsRows, EndsRun, IsEndOf}

-- the rows of a block, or the refusal of the error that ended its scan
abbrev pub GivesBlock : Tree → Tree → ℕ → Ty → StoreSeen → StoreSeen → Result (Vec ScalarValue Global) Refusal → Type 0
GivesBlock f p block t before after (Ok rows) = RunsBlock [] f p block before after [] (seen_rows t rows.items) (Ok tt)
GivesBlock f p block t before after (Err refusal) =
    (error : ScanError) × (rows : List Val) × RunsBlock [] f p block before after [] rows (Err error) × IsScanRefusal (kind_of error) refusal

-- whether no more rows are wanted
abbrev pub wants_none : Option ℕ → Bool
wants_none None = false
wants_none (Some n) = nat_eq n 0

-- of the rows of a block those that are wanted were written, and they and the block are counted; or first bytes of them were, and no more for the reason
-- that the refusal tells
abbrev pub WritesWanted : List Val → Written → End → End → Result Written Refusal → Type 0
WritesWanted given was before after (Ok now) =
    Added before.bytes after.bytes (row_lines (first_of_rows was.left given)) × (now.rows ≡ more_rows was.rows (wanted_among was.left (length given)))
    × (now.scanned ≡ was.scanned + 1) × (now.left ≡ limit_behind was.left (length given))
WritesWanted given was before after (Err refusal) =
    AddedPrefix before.bytes after.bytes (row_lines (first_of_rows was.left given)) × CutsRows refusal before.faults after.faults

-- how far a run has come
abbrev pub progress_at : StoreSeen → End → Written → Progress
progress_at store output written = record { store = store; output = output; rows = written.rows; scanned = written.scanned }

-- what a run keeps and makes from one point to another: the zones and the table of the store, reads that are logged, and lines that are added
pub record Goes (store_before store_after : StoreSeen) (before after : End) : Type 0 where
  pub same : IsSameStore store_before store_after
  pub made : List Read
  pub grown : store_after.log ≡ store_before.log ++ made
  pub lines : Bytes
  pub added : Added before.bytes after.bytes lines
  pub later : before.faults ≤ after.faults

-- a run over the blocks that are kept, as far as their rows are wanted
abbrev pub RunsKept : Ty → Tree → Tree → Option ℕ → List (ℕ × List Val) → Progress → Progress → RunEnd → Type 0
RunsKept t f p limit kept before after end = RunsOver t f p limit (scanned_of t f p limit kept) before after end

-- a step of a run over some first blocks: with a run over others behind it, it is a run over all; or it ended the run
abbrev pub StepsOver : Ty → Tree → Tree → List (ℕ × List Val) → Written → StoreSeen → StoreSeen → End → End → Result Written Refusal → Type 0
StepsOver t f p own was store_before store_after before after (Ok now) =
    (others : List (ℕ × List Val)) (last : Progress) (end : RunEnd) → RunsKept t f p now.left others (progress_at store_after after now) last end
    → RunsKept t f p was.left (own ++ others) (progress_at store_before before was) last end
StepsOver t f p own was store_before store_after before after (Err refusal) =
    (others : List (ℕ × List Val)) → (end : RunEnd) × EndsRun refusal end
    × RunsKept t f p was.left (own ++ others) (progress_at store_before before was) (progress_at store_after after was) end

-- the turn of a block with these rows: where it is ruled out it is none of the blocks of a run
abbrev pub TakesTurn : Tree → Tree → Bool → ℕ → Written → StoreSeen → StoreSeen → End → End → Result Written Refusal → Table → Type 0
TakesTurn f p is_out block was store_before store_after before after result table =
    (rows : List Val) → slice_get table.blocks block ≡ Some rows
    → StepsOver (row_type table.columns) f p (cond is_out [] ((block, rows) ∷ [])) was store_before store_after before after result

-- the kept blocks of a table from one on
abbrev pub kept_from : Table → Zones → Tree → ℕ → List (ℕ × List Val)
kept_from table zones f i = filter (λ b. not (rules_out zones [] b.0 f)) (numbered_from i (drop i table.blocks))

-- the start of a run
abbrev pub run_start : StoreSeen → End → Progress
run_start store output = record { store = store; output = output; rows = 0; scanned = 0 }

-- a run has come to a block: with a run over the blocks from there on it is a run over all
abbrev pub HasComeTo : Tree → Tree → ℕ → Option ℕ → Option ℕ → Progress → Progress → Zones → Table → Type 0
HasComeTo f p i limit left start now zones table =
    (last : Progress) (end : RunEnd) → RunsKept (row_type table.columns) f p left (kept_from table zones f i) now last end
    → RunsKept (row_type table.columns) f p limit (kept_of table zones [] f) start last end

-- what was found is counted
abbrev pub CountsFound : Result Found Refusal → ℕ → ℕ → ℕ → Type 0
CountsFound (Ok found) blocks rows scanned = (found.blocks ≡ blocks) × (found.skipped ≡ blocks - scanned) × (found.rows ≡ rows)
CountsFound (Err refusal) blocks rows scanned = Unit {0}

-- a run over all kept blocks, from its start to this end
abbrev pub RunsToEnd : Tree → Tree → Option ℕ → StoreSeen → StoreSeen → End → End → Result Found Refusal → Table → Type 0
RunsToEnd f p limit store_before store_after before after result table =
    (rows : ℕ) × (scanned : ℕ) × (end : RunEnd) × IsEndOf result end × CountsFound result (length store_before.zones.lengths) rows scanned
    × RunsKept (row_type table.columns) f p limit (kept_of table store_before.zones [] f)
    (run_start store_before before) (record { store = store_after; output = after; rows = rows; scanned = scanned }) end
