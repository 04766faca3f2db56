-- A table whose blocks, with their statistics, are cut into two runs: what a scan of it answers is what scans of the runs do, one after another.
use Rattle.std.specs.Prelude.{◌≡◌, ℕ, ◌+◌, ◌≤◌, List, ◌++◌, map, length, take, drop}
use Rattle.vx_expr.specs.Trees.{Tree}
use Rattle.vx_semantics.specs.Meaning.{Slots}
use Rattle.vx_semantics.specs.Tables.{Table, Zones}
use Rattle.vx_semantics.specs.Scans.{Phase, rows_of, kept_rows_of, kept_blocks, skipped_blocks, phases_of, reads_of}
use Rattle.vx_scan.specs.Stores.{Read}

-- the statistics of the first blocks, and of the blocks behind them
abbrev pub first_zones : ℕ → Zones → Zones
first_zones n zones =
    record {
      columns = zones.columns;
      lengths = take n zones.lengths;
      stats = map (λ z. record { path = z.path; stat = z.stat; values = take n z.values }) zones.stats;
    }

abbrev pub later_zones : ℕ → Zones → Zones
later_zones n zones =
    record {
      columns = zones.columns;
      lengths = drop n zones.lengths;
      stats = map (λ z. record { path = z.path; stat = z.stat; values = drop n z.values }) zones.stats;
    }

-- the table of the first blocks, and of the blocks behind them
abbrev pub first_blocks : ℕ → Table → Table
first_blocks n table = record { columns = table.columns; blocks = take n table.blocks }

abbrev pub later_blocks : ℕ → Table → Table
later_blocks n table = record { columns = table.columns; blocks = drop n table.blocks }

-- reads, and phases, of blocks that stand so many blocks further on
abbrev pub shifted_reads : ℕ → List Read → List Read
shifted_reads n reads = map (λ r. (n + r.0, r.1)) reads

abbrev pub shifted_phase : ℕ → Phase → Phase
shifted_phase n phase = record { expression = phase.expression; reads = shifted_reads n phase.reads; rows = phase.rows }

-- each answer over the table is that over the first blocks and then that over the later ones, whose numbers are shifted
pub record IsOfRuns (table : Table) (zones : Zones) (slots : Slots) (f p : Tree) (n : ℕ) : Type 0 where
  pub rows : rows_of table slots f p ≡ rows_of (first_blocks n table) slots f p ++ rows_of (later_blocks n table) slots f p
  pub kept_rows : kept_rows_of table zones slots f p
      ≡ kept_rows_of (first_blocks n table) (first_zones n zones) slots f p ++ kept_rows_of (later_blocks n table) (later_zones n zones) slots f p
  pub kept : kept_blocks zones slots f ≡ kept_blocks (first_zones n zones) slots f ++ map (λ b. n + b) (kept_blocks (later_zones n zones) slots f)
  pub skipped : skipped_blocks zones slots f
      ≡ skipped_blocks (first_zones n zones) slots f ++ map (λ b. n + b) (skipped_blocks (later_zones n zones) slots f)
  pub phases : phases_of table zones slots f p
      ≡ phases_of (first_blocks n table) (first_zones n zones) slots f p
      ++ map (shifted_phase n) (phases_of (later_blocks n table) (later_zones n zones) slots f p)
  pub reads : reads_of table zones slots f p
      ≡ reads_of (first_blocks n table) (first_zones n zones) slots f p
      ++ shifted_reads n (reads_of (later_blocks n table) (later_zones n zones) slots f p)

-- so it is wherever a table with as many blocks as its statistics have lengths is cut
abbrev pub ScansOfRuns : Type 0
ScansOfRuns =
    (table : Table) (zones : Zones) (slots : Slots) (f p : Tree) (n : ℕ) → length table.blocks ≡ length zones.lengths → n ≤ length zones.lengths
    → IsOfRuns table zones slots f p n
