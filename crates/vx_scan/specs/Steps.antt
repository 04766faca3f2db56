-- For the checker: no public clause cites this.
-- What the steps of a scan answer: expressions that are prepared, and of a block its reads, its truths and its rows.
use Rattle.std.specs.Prelude.{◌≡◌, ◌⊎◌, ℕ, ◌≤◌, Bool, true, false, not, List, [], ◌∷◌, ◌++◌, map, length, Some, Result, Ok, Err}
use Rattle.std.specs.List.{AllZip, filter, list_any, slice_get}
use Rattle.vx_dtype.specs.Types.{Bytes, Ty, Fields}
use Rattle.vx_dtype.specs.TypeRules.{has_name, is_bool_ty}
use Rattle.vx_dtype.specs.Values.{Val}
use Rattle.vx_expr.specs.Trees.{Tree}
use Rattle.vx_column.specs.Columns.{Column, column, kept_rows, seen_rows}
use Rattle.vx_column.specs.declared.columns.ColumnRef.{ColumnRef}
use Rattle.vx_semantics.specs.Meaning.{Slots, mean}
use Rattle.vx_semantics.specs.Breaks.{by_sum, by_cast}
use Rattle.vx_semantics.specs.Asked.{some_asked_breaks}
use Rattle.vx_semantics.specs.Tables.{Table, Zones, row_type}
use Rattle.vx_eval.specs.Evaluating.{checked_type}
use Rattle.vx_io.specs.Counts.{one_more}
use Rattle.vx_prepare.specs.Preparing.{IsPrepared, asked_breaks_by}
use Rattle.vx_prepare.specs.declared.prepared.PreparedExpr.{PreparedExpr}
use Rattle.vx_block_pruning.specs.BlocksRuledOut.{blocks_ruled_out}
use Rattle.vx_scan.specs.ErrorKinds.{kind_of, OnlyOfTypes}
use Rattle.vx_scan.specs.Stores.{Read, StoreSeen, WhereTold, IsColumnOf}
use Rattle.vx_scan.specs.Scanning.{on_side, asks_breaking, IsScanOf}
use Rattle.vx_scan.specs.Opening.{IsPreparedScan}
use Rattle.vx_scan.specs.BlockRuns.{Runs, RunsBlock}
use Rattle.vx_scan.specs.Runs.{IsScannedTo}
use Rattle.vx_scan.specs.declared.errors.Side.{Side}
use Rattle.vx_scan.specs.declared.errors.ScanError.{ScanError}
use Rattle.vx_scan.specs.declared.errors.ScanError.TheVariants as errors
use Rattle.vx_scan.specs.declared.preparing.PreparedScan.{PreparedScan}
use Rattle.vx_scan.specs.declared.filtering.FilteredBlock.{FilteredBlock}
use Rattle.vx_scan.specs.declared.finding.Found.{Found}

-- the expression of a side is prepared, or the refusal is that of its typing
abbrev pub PreparesSide : Fields → Slots → Side → Tree → Result PreparedExpr ScanError → Type 0
PreparesSide fs slots side e (Ok p) = IsPrepared fs slots e p
PreparesSide fs slots side e (Err why) = OnlyOfTypes (kind_of why) (on_side side (checked_type (row_type fs) slots e) ≡ Err why)

-- a scan that is ready, and of each block whether the filter rules it out
pub record IsRuledScan (zones : Zones) (slots : Slots) (f p : Tree) (scan : PreparedScan) (flags : List Bool) : Type 0 where
  pub prepared : IsPreparedScan zones slots f p scan
  pub ruled_out : flags ≡ blocks_ruled_out zones slots f

-- how an answer ends, whatever it is
abbrev pub ending : {A : Type 0} → Result A ScanError → Result (Unit {0}) ScanError
ending (Ok a) = Ok tt
ending (Err e) = Err e

-- of these reads all were made; or the first ones before the one that failed, which counted a fault; or the first ones before there was no memory
abbrev pub MakesReads : List Read → StoreSeen → StoreSeen → Result (Unit {0}) ScanError → Type 0
MakesReads reads before after (Ok a) = (after.log ≡ before.log ++ reads) × (after.failed ≡ before.failed)
MakesReads reads before after (Err errors.StoreFault) =
    (read : Read) × (done : List Read) × (left : List Read) × (after.failed ≡ Some read) × (one_more before.faults ≤ after.faults)
    × (after.log ≡ before.log ++ done) × (reads ≡ done ++ (read ∷ left))
MakesReads reads before after (Err errors.NoMemory) =
    (done : List Read) × (left : List Read) × (after.failed ≡ before.failed) × (after.log ≡ before.log ++ done) × (reads ≡ done ++ left)
MakesReads reads before after (Err _) = ⊥

-- the names that are not among those that are known
abbrev pub further_names : List Bytes → List Bytes → List Bytes
further_names known names = filter (λ c. not (has_name c known)) names

-- the columns of a block of these names
abbrev pub AreColumnsOf : StoreSeen → ℕ → List Bytes → List Column → Type 0
AreColumnsOf store block names columns = AllZip (IsColumnOf store block) names columns

-- a column at the rows at which another is true
abbrev pub kept_column : List Val → Column → Column
kept_column keep c = column c.ty (kept_rows c.rows keep)

-- what an expression gives over rows: its meaning at each where no asked node breaks at one, else by which cause one does
abbrev pub GivesAsked : Ty → Slots → Tree → List Val → Result ColumnRef ScanError → Type 0
GivesAsked t slots e rows (Ok c) =
    (c.rows ≡ map (λ row. mean t slots row e) rows) × (list_any (λ row. some_asked_breaks t slots row e) rows ≡ false)
GivesAsked t slots e rows (Err errors.Overflow) = asked_breaks_by by_sum t slots e rows ≡ true
GivesAsked t slots e rows (Err errors.BadCast) = asked_breaks_by by_cast t slots e rows ≡ true
GivesAsked t slots e rows (Err errors.NoMemory) = Unit {0}
GivesAsked t slots e rows (Err _) = ⊥

-- an expression breaks only by what it asks
abbrev pub BreaksAsAsked : Ty → Tree → Result ColumnRef ScanError → Type 0
BreaksAsAsked t e (Ok c) = Unit {0}
BreaksAsAsked t e (Err errors.Overflow) = asks_breaking by_sum t e ≡ true
BreaksAsAsked t e (Err errors.BadCast) = asks_breaking by_cast t e ≡ true
BreaksAsAsked t e (Err errors.NoMemory) = Unit {0}
BreaksAsAsked t e (Err _) = ⊥

-- how a phase's run ends, of whose reads these are left
abbrev pub EndsPart : Ty → Tree → List Read → StoreSeen → StoreSeen → Result (Unit {0}) ScanError → Type 0
EndsPart t e left before after (Ok a) = (left ≡ []) × (after.failed ≡ before.failed)
EndsPart t e left before after (Err errors.Overflow) = (left ≡ []) × (after.failed ≡ before.failed) × (asks_breaking by_sum t e ≡ true)
EndsPart t e left before after (Err errors.BadCast) = (left ≡ []) × (after.failed ≡ before.failed) × (asks_breaking by_cast t e ≡ true)
EndsPart t e left before after (Err errors.StoreFault) =
    (read : Read) × (rest : List Read) × (after.failed ≡ Some read) × (one_more before.faults ≤ after.faults) × (left ≡ read ∷ rest)
EndsPart t e left before after (Err errors.NoMemory) = after.failed ≡ before.failed
EndsPart t e left before after (Err _) = ⊥

-- a phase's run in a block where the table is told: over the rows that the block's rows have for it
abbrev pub RunsTold : Ty → Slots → Tree → List Read → ℕ → (List Val → List Val) → StoreSeen → StoreSeen → Result (Unit {0}) ScanError → Table → Type 0
RunsTold t slots e reads block of_rows before after result table =
    (rows : List Val) × (slice_get table.blocks block ≡ Some rows)
    × Runs t slots (record { expression = e; reads = reads; rows = of_rows rows } ∷ []) before.log after.log after.failed result

-- the run of one of a block's phases: of its reads some first ones were made, and it ended so
pub record RunsPart (slots : Slots) (e : Tree) (reads : List Read) (block : ℕ) (of_rows : List Val → List Val) (before after : StoreSeen)
    (result : Result (Unit {0}) ScanError) : Type 0 where
  pub made : List Read
  pub left : List Read
  pub grown : after.log ≡ before.log ++ made
  pub first : reads ≡ made ++ left
  pub ends : EndsPart (row_type before.zones.columns) e left before after result
  pub told : WhereTold before.held (RunsTold (row_type before.zones.columns) slots e reads block of_rows before after result)

-- the truths of a filter at the rows of a block, where the table is told
abbrev pub AreTruths : Ty → Slots → Tree → ℕ → List Val → Table → Type 0
AreTruths t slots f block keep table =
    (rows : List Val) × (slice_get table.blocks block ≡ Some rows) × (keep ≡ map (λ row. mean t slots row f) rows)

-- a block that is filtered: the columns that the filter asks, its truth at each row, and how many rows it is true at
pub record IsFiltered (slots : Slots) (f : Tree) (names : List Bytes) (block : ℕ) (store : StoreSeen) (filtered : FilteredBlock) : Type 0 where
  pub columns : AreColumnsOf store block names filtered.columns.items
  pub len : slice_get store.zones.lengths block ≡ Some (length filtered.keep.rows)
  pub boolean : is_bool_ty filtered.keep.ty ≡ true
  pub count : filtered.count ≡ length (kept_rows filtered.keep.rows filtered.keep.rows)
  pub told : WhereTold store.held (AreTruths (row_type store.zones.columns) slots f block filtered.keep.rows)

-- a block's rows stand behind those before, where the table is told and the run came to its end
abbrev pub AddsToldRows : (List Val → List Val) → ℕ → List Val → List Val → Result (Unit {0}) ScanError → Table → Type 0
AddsToldRows given block was now (Ok a) table = (rows : List Val) × (slice_get table.blocks block ≡ Some rows) × (now ≡ was ++ given rows)
AddsToldRows given block was now (Err e) table = Unit {0}

-- what a scan has found: rows, and the numbers of the blocks that it kept and skipped
pub record Finding : Type 0 where
  pub rows : List Val
  pub kept : List ℕ
  pub skipped : List ℕ

-- what a value of the code has found, with rows of this type
abbrev pub found_view : Ty → Found → Finding
found_view u found = record { rows = seen_rows u found.rows.items; kept = found.kept.items; skipped = found.skipped.items }

-- the turn of a block: one that is ruled out is put behind those that were skipped, and nothing is read; else it is put behind those that were kept, and runs
abbrev pub TakesTurn : Bool → Slots → Tree → Tree → ℕ → StoreSeen → StoreSeen → Finding → Finding → Result (Unit {0}) ScanError → Type 0
TakesTurn true slots f p block before after was now (Ok a) =
    (after ≡ before) × (now.rows ≡ was.rows) × (now.kept ≡ was.kept) × (now.skipped ≡ was.skipped ++ (block ∷ []))
TakesTurn true slots f p block before after was now (Err e) = (after ≡ before) × (e ≡ errors.NoMemory)
TakesTurn false slots f p block before after was now (Ok a) =
    RunsBlock slots f p block before after was.rows now.rows (Ok tt) × (now.kept ≡ was.kept ++ (block ∷ [])) × (now.skipped ≡ was.skipped)
TakesTurn false slots f p block before after was now (Err e) =
    ((after ≡ before) × (e ≡ errors.NoMemory)) ⊎ RunsBlock slots f p block before after was.rows now.rows (Err e)

-- how a scan stands at a block: it has come there, or has ended before
abbrev pub StandsAt : Slots → Tree → Tree → ℕ → StoreSeen → StoreSeen → List Val → List ℕ → List ℕ → Result (Unit {0}) ScanError → Type 0
StandsAt slots f p i before after rows keeps skips (Ok a) = IsScannedTo slots f p i before after rows keeps skips
StandsAt slots f p i before after rows keeps skips (Err e) = IsScanOf slots f p before after (Err e)

-- how a scan stands behind the last block, of which it found rows of this type
abbrev pub EndsBlocks : Slots → Tree → Tree → Ty → StoreSeen → StoreSeen → Result Found ScanError → Type 0
EndsBlocks slots f p u before after (Ok found) =
    IsScannedTo slots f p (length before.zones.lengths) before after (seen_rows u found.rows.items) found.kept.items found.skipped.items
EndsBlocks slots f p u before after (Err e) = IsScanOf slots f p before after (Err e)
