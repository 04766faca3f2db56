-- Scans over stores whose statistics are those that their tables have: no row is lost by what they skip.
use Rattle.std.specs.Prelude.{◌≡◌, Bool, [], Some, Ok}
use Rattle.vx_dtype.specs.Types.{Bytes}
use Rattle.vx_expr.specs.Trees.{Tree}
use Rattle.vx_semantics.specs.Meaning.{Slots}
use Rattle.vx_semantics.specs.Tables.{Table}
use Rattle.vx_semantics.specs.Scans.{rows_of}
use Rattle.vx_wire.specs.declared.encodings.ExprEncoding.{ExprEncoding}
use Rattle.vx_laws_stats.specs.BuiltStatistics.{built_zones}
use Rattle.vx_laws_stats.specs.BuiltLaws.{IsTable}
use Rattle.vx_scan.specs.Stores.{StoreSeen}
use Rattle.vx_scan.specs.Texts.{SpellBoth}
use Rattle.vx_scan.specs.Reports.{Report, report_view}
use Rattle.vx_scan.specs.Scanning.{IsReport, IsScan}
use Rattle.vx_scan.specs.declared.reports.ScanReport.{ScanReport}

-- a store that tells this table, and whose statistics are those that the table has
pub record HasItsStatistics (store : StoreSeen) (table : Table) : Type 0 where
  pub held : store.held ≡ Some table
  pub zones : store.zones ≡ built_zones table
  pub is_table : IsTable table

-- the report of a scan over such a store has all rows at which the filter means true
abbrev pub BuiltScansAreWhole : Type 0
BuiltScansAreWhole =
    (slots : Slots) (filter_expr projection : Tree) (before after : StoreSeen) (report : Report) (table : Table)
    → IsReport slots filter_expr projection before after report → HasItsStatistics before table
    → report.rows ≡ rows_of table slots filter_expr projection

-- and so that of a scan of texts that spell the filter and the projection
abbrev pub BuiltTextScansAreWhole : Type 0
BuiltTextScansAreWhole =
    (holds : ExprEncoding → Bool) (filter_text projection_text : Bytes) (filter_expr projection : Tree) (before after : StoreSeen) (report : ScanReport)
    (table : Table) → SpellBoth holds filter_text projection_text filter_expr projection
    → IsScan holds filter_text projection_text before after (Ok report) → HasItsStatistics before table
    → (report_view report).rows ≡ rows_of table [] filter_expr projection
