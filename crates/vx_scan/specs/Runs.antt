-- For the checker: no public clause cites this.
-- How far a scan has come before a block.
use Rattle.std.specs.Prelude.{◌≡◌, ℕ, not, List, ◌++◌, map, take, Ok}
use Rattle.std.specs.List.{flat_map, filter}
use Rattle.vx_dtype.specs.Values.{Val}
use Rattle.vx_expr.specs.Trees.{Tree}
use Rattle.vx_semantics.specs.Meaning.{Slots}
use Rattle.vx_semantics.specs.Pruning.{rules_out}
use Rattle.vx_semantics.specs.Tables.{Table, Zones, row_type, numbered_from}
use Rattle.vx_semantics.specs.Scans.{Phase, block_phases, block_rows}
use Rattle.vx_scan.specs.Stores.{Read, StoreSeen, WhereTold, IsSameStore}
use Rattle.vx_scan.specs.Scanning.{AreAmong}
use Rattle.vx_scan.specs.BlockRuns.{Runs, block_asked}

-- the kept blocks of the table before a block, each with its number
abbrev pub kept_before : Table → Zones → Slots → Tree → ℕ → List (ℕ × List Val)
kept_before table zones slots f i = filter (λ b. not (rules_out zones slots b.0 f)) (numbered_from 0 (take i table.blocks))

-- the phases, and the rows, of the kept blocks before a block
abbrev pub phases_before : Table → Zones → Slots → Tree → Tree → ℕ → List Phase
phases_before table zones slots f p i = flat_map (block_phases (row_type table.columns) slots f p) (kept_before table zones slots f i)

abbrev pub rows_before : Table → Zones → Slots → Tree → Tree → ℕ → List Val
rows_before table zones slots f p i = flat_map (λ b. block_rows (row_type table.columns) slots f p b.1) (kept_before table zones slots f i)

-- the numbers of the kept, and of the skipped, blocks before a block
abbrev pub kept_numbers_before : Zones → Slots → Tree → ℕ → List ℕ
kept_numbers_before zones slots f i = map (λ b. b.0) (filter (λ b. not (rules_out zones slots b.0 f)) (numbered_from 0 (take i zones.lengths)))

abbrev pub skipped_numbers_before : Zones → Slots → Tree → ℕ → List ℕ
skipped_numbers_before zones slots f i = map (λ b. b.0) (filter (λ b. rules_out zones slots b.0 f) (numbered_from 0 (take i zones.lengths)))

-- the reads that a scan may make in the kept blocks before a block
abbrev pub asked_before : Zones → Slots → Tree → Tree → ℕ → List Read
asked_before zones slots f p i = flat_map (block_asked zones f p) (kept_numbers_before zones slots f i)

-- the log grew by some of these reads, in their order
abbrev pub GrowsAmong : List Read → List Read → List Read → Type 0
GrowsAmong all before after = (made : List Read) × (after ≡ before ++ made) × AreAmong made all

-- a scan has come to a block: nothing failed, and these are the rows, the kept and the skipped blocks before it
pub record IsScannedTo (slots : Slots) (f p : Tree) (i : ℕ) (before after : StoreSeen) (rows : List Val) (keeps skips : List ℕ) : Type 0 where
  pub same : IsSameStore before after
  pub unfailed : after.failed ≡ before.failed
  pub among : GrowsAmong (asked_before before.zones slots f p i) before.log after.log
  pub ran : WhereTold before.held
      (λ table. Runs (row_type table.columns) slots (phases_before table before.zones slots f p i) before.log after.log after.failed (Ok tt))
  pub rows_are : WhereTold before.held (λ table. rows ≡ rows_before table before.zones slots f p i)
  pub kept : keeps ≡ kept_numbers_before before.zones slots f i
  pub skipped : skips ≡ skipped_numbers_before before.zones slots f i
