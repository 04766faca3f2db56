-- How the scan of one block runs: through the phases of the block, with some of its reads, to an end; and what it leaves.
use Rattle.std.specs.Prelude.{◌≡◌, ℕ, ◌≤◌, true, false, ◌||◌, List, [], ◌∷◌, ◌++◌, Option, Some, None, Result, Ok, Err}
use Rattle.std.specs.List.{list_any, slice_get}
use Rattle.vx_dtype.specs.Types.{Ty}
use Rattle.vx_dtype.specs.Values.{Val}
use Rattle.vx_expr.specs.Trees.{Tree}
use Rattle.vx_semantics.specs.Meaning.{Slots}
use Rattle.vx_semantics.specs.Breaks.{Cause}
use Rattle.vx_semantics.specs.Asked.{asked_columns}
use Rattle.vx_semantics.specs.Tables.{Table, Zones, row_type}
use Rattle.vx_semantics.specs.Scans.{Phase, block_phases, phase_breaks, phases_to_break, first_breaks_by, phase_reads, block_rows, reads_in, further_columns}
use Rattle.vx_io.specs.Counts.{one_more}
use Rattle.vx_scan.specs.ErrorKinds.{ErrorKind, of_memory, of_break, of_read, kind_of}
use Rattle.vx_scan.specs.Stores.{Read, StoreSeen, WhereTold, IsSameStore}
use Rattle.vx_scan.specs.Scanning.{AreAmong, asks_breaking}
use Rattle.vx_scan.specs.declared.errors.ScanError.{ScanError}

-- what a run through phases that an error of a kind ends makes of the log: it ends without memory, at the first phase that breaks, by its cause, or at a
-- read that failed
abbrev pub RunsUntil : ErrorKind → Ty → Slots → List Phase → List Read → List Read → Option Read → Type 0
RunsUntil of_memory t slots phases before after failed =
    (done : List Read) × (left : List Read) × (after ≡ before ++ done) × (phase_reads (phases_to_break t slots phases) ≡ done ++ left)
RunsUntil (of_break cause) t slots phases before after failed =
    (after ≡ before ++ phase_reads (phases_to_break t slots phases)) × (first_breaks_by cause t slots phases ≡ true)
RunsUntil of_read t slots phases before after failed =
    (read : Read) × (done : List Read) × (left : List Read) × (failed ≡ Some read) × (after ≡ before ++ done)
    × (phase_reads (phases_to_break t slots phases) ≡ done ++ (read ∷ left))
RunsUntil _ t slots phases before after failed = ⊥

-- what a run through phases makes of the log: it comes through all, of which none breaks, or an error ends it
abbrev pub Runs : Ty → Slots → List Phase → List Read → List Read → Option Read → Result (Unit {0}) ScanError → Type 0
Runs t slots phases before after failed (Ok u) = (after ≡ before ++ phase_reads phases) × (list_any (phase_breaks t slots) phases ≡ false)
Runs t slots phases before after failed (Err e) = RunsUntil (kind_of e) t slots phases before after failed

-- the reads that a scan may make in a block
abbrev pub block_asked : Zones → Tree → Tree → ℕ → List Read
block_asked zones f p b = reads_in b (asked_columns (row_type zones.columns) f) ++ reads_in b (further_columns (row_type zones.columns) f p)

-- the reads that were made before the one that failed, and that one, are some of these, in their order
abbrev pub FailedAmong : List Read → List Read → Option Read → Type 0
FailedAmong all made None = ⊥
FailedAmong all made (Some read) = AreAmong (made ++ (read ∷ [])) all

-- a kept block's run broke by this cause, which the filter or the projection can do
abbrev pub BrokeBy : Cause → Tree → Tree → StoreSeen → StoreSeen → Type 0
BrokeBy cause f p before after =
    (after.failed ≡ before.failed)
    × ((asks_breaking cause (row_type before.zones.columns) f || asks_breaking cause (row_type before.zones.columns) p) ≡ true)

-- how the run of a kept block ends by an error of a kind, whether its table is told or not
abbrev pub StopsBlock : ErrorKind → Tree → Tree → ℕ → StoreSeen → StoreSeen → List Read → Type 0
StopsBlock of_memory f p block before after made = after.failed ≡ before.failed
StopsBlock (of_break cause) f p block before after made = BrokeBy cause f p before after
StopsBlock of_read f p block before after made =
    (one_more before.faults ≤ after.faults) × FailedAmong (block_asked before.zones f p block) made after.failed
StopsBlock _ f p block before after made = ⊥

-- how the run of a kept block ends
abbrev pub EndsBlock : Tree → Tree → ℕ → StoreSeen → StoreSeen → List Read → Result (Unit {0}) ScanError → Type 0
EndsBlock f p block before after made (Ok u) = after.failed ≡ before.failed
EndsBlock f p block before after made (Err e) = StopsBlock (kind_of e) f p block before after made

-- the rows after a block's run are those before and the block's, where it came to its end
abbrev pub AddsRows : List Val → List Val → List Val → Result (Unit {0}) ScanError → Type 0
AddsRows added was now (Ok u) = now ≡ was ++ added
AddsRows added was now (Err e) = Unit {0}

-- what the run of a kept block is where the table is told: a run through its phases, and its rows
pub record RunsBlockOf (slots : Slots) (f p : Tree) (block : ℕ) (table : Table) (before after : StoreSeen) (was now : List Val)
    (result : Result (Unit {0}) ScanError) : Type 0 where
  pub held_rows : List Val
  pub there : slice_get table.blocks block ≡ Some held_rows
  pub ran : Runs (row_type table.columns) slots (block_phases (row_type table.columns) slots f p (block, held_rows)) before.log after.log after.failed result
  pub adds : AddsRows (block_rows (row_type table.columns) slots f p held_rows) was now result

-- the run of a kept block from one state of the store to another: it made some of the block's reads, and ended so
pub record RunsBlock (slots : Slots) (f p : Tree) (block : ℕ) (before after : StoreSeen) (was now : List Val)
    (result : Result (Unit {0}) ScanError) : Type 0 where
  pub same : IsSameStore before after
  pub made : List Read
  pub grown : after.log ≡ before.log ++ made
  pub asked : AreAmong made (block_asked before.zones f p block)
  pub ends : EndsBlock f p block before after made result
  pub told : WhereTold before.held (λ table. RunsBlockOf slots f p block table before after was now result)
