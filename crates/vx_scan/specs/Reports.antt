-- What a scan reports, and how reports are seen.
use Rattle.std.specs.Prelude.{ℕ, List}
use Rattle.vx_dtype.specs.Types.{Bytes, Ty}
use Rattle.vx_dtype.specs.TypeViews.{type_view}
use Rattle.vx_dtype.specs.Values.{Val}
use Rattle.vx_column.specs.Columns.{raw_rows}
use Rattle.vx_scan.specs.declared.reports.ScanReport.{ScanReport}

-- a report: the type of its rows, the rows, the numbers of the kept and of the skipped blocks, and the columns that filter and projection ask
pub record Report : Type 0 where
  pub ty : Ty
  pub rows : List Val
  pub kept : List ℕ
  pub skipped : List ℕ
  pub filter_columns : List Bytes
  pub projection_columns : List Bytes

-- the report that a value of the code stands for: its rows are what the raw values are at its type
abbrev pub report_view : ScanReport → Report
report_view r =
    record {
      ty = type_view r.dtype;
      rows = raw_rows (type_view r.dtype) r.rows;
      kept = r.kept;
      skipped = r.skipped;
      filter_columns = r.filter_columns;
      projection_columns = r.projection_columns;
    }
