-- Laws of what runs answer: what they have in common with scans.
use Rattle.std.specs.Prelude.{◌≡◌, ℕ, [], length, take, Option, Some, None, is_some}
use Rattle.vx_expr.specs.Trees.{Tree}
use Rattle.vx_semantics.specs.Honest.{IsHonest}
use Rattle.vx_semantics.specs.Tables.{Table, Zones, row_type}
use Rattle.vx_semantics.specs.Scans.{rows_of, kept_rows_of, skipped_blocks, reads_of, some_phase_breaks}
use Rattle.vx_laws_topk.specs.TopPhases.{slotted_reads}
use Rattle.vx_laws_shell.specs.Answers.{Stop, Found, first_stop, found_in_order}
use Rattle.vx_laws_shell.specs.Damage.{is_never_damaged}

-- how a run over a table in memory is stopped
abbrev pub stop_of : Table → Found → Option Stop
stop_of table found = first_stop is_never_damaged (row_type table.columns) found.phases

-- a run that finds what a scan does: its reads, the blocks that it skips, and, where no phase breaks, its rows; it is stopped exactly where one does
pub record FindsAScan (table : Table) (zones : Zones) (f p : Tree) (found : Found) : Type 0 where
  pub reads : slotted_reads found.phases ≡ reads_of table zones [] f p
  pub skipped : found.skipped ≡ length (skipped_blocks zones [] f)
  pub stopped : is_some (stop_of table found) ≡ some_phase_breaks table zones [] f p
  pub rows : stop_of table found ≡ None → found.rows ≡ kept_rows_of table zones [] f p

-- without a limit a run in the table's order finds what a scan does
abbrev pub RunsAreScans : Type 0
RunsAreScans =
    (table : Table) (zones : Zones) (f p : Tree) → length table.blocks ≡ length zones.lengths
    → FindsAScan table zones f p (found_in_order is_never_damaged table zones f p None)

-- with a limit a run that isn't stopped finds the first rows of those that a scan's definition gives, whatever breaks behind them
abbrev pub LimitsGiveFirstRows : Type 0
LimitsGiveFirstRows =
    (table : Table) (zones : Zones) (f p : Tree) (limit : ℕ) → length table.blocks ≡ length zones.lengths
    → let found = found_in_order is_never_damaged table zones f p (Some limit) in
    stop_of table found ≡ None → found.rows ≡ take limit (kept_rows_of table zones [] f p)

-- where statistics are honest these are the first of all rows at which the filter is true
abbrev pub HonestLimitsGiveFirstRows : Type 0
HonestLimitsGiveFirstRows =
    (table : Table) (zones : Zones) (f p : Tree) (limit : ℕ) → IsHonest zones table
    → let found = found_in_order is_never_damaged table zones f p (Some limit) in
    stop_of table found ≡ None → found.rows ≡ take limit (rows_of table [] f p)
