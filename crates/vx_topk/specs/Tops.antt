-- For the checker: no public clause cites this.
-- How the first rows of a table are reported.
use Rattle.std.specs.Prelude.{◌≡◌, ◌⊎◌, map, Result, Ok, Err}
use Rattle.vx_dtype.specs.Types.{Ty}
use Rattle.vx_dtype.specs.RawViews.{raw_view}
use Rattle.vx_dtype.specs.TypeViews.{type_view}
use Rattle.vx_laws_topk.specs.TopRows.{TopAsk}
use Rattle.vx_scan.specs.Stores.{StoreSeen}
use Rattle.vx_scan.specs.declared.errors.ScanError.TheVariants as scans
use Rattle.vx_topk.specs.TopEnds.{top_view, IsTopReport, IsTopCutOff}
use Rattle.vx_topk.specs.TopRuns.{IsTopStopped}
use Rattle.vx_topk.specs.declared.reports.TopReport.{TopReport}
use Rattle.vx_topk.specs.declared.errors.TopError.{TopError}
use Rattle.vx_topk.specs.declared.errors.TopError.TheVariants as errors
use Rattle.vx_topk.specs.declared.finding.Finding.{Finding}

-- the report of a finding: of this type, with the values of the first rows and the numbers of the skipped blocks
pub record ReportsFinding (ty : Ty) (finding : Finding) (report : TopReport) : Type 0 where
  pub dtype : type_view report.dtype ≡ ty
  pub rows : report.rows ≡ map (λ e. raw_view e.1) finding.first.rows.entries
  pub skipped : report.skipped ≡ finding.skipped.items

-- how the finding of typed first rows ends
abbrev pub EndsTop : TopAsk → Ty → StoreSeen → StoreSeen → Result TopReport TopError → Type 0
EndsTop ask ty before after (Ok report) = IsTopReport ask before after (top_view report)
EndsTop ask ty before after (Err errors.NoMemory) = (after ≡ before) ⊎ IsTopCutOff ask before after
EndsTop ask ty before after (Err errors.UnknownKey) = ⊥
EndsTop ask ty before after (Err errors.BadKey) = ⊥
EndsTop ask ty before after (Err (errors.Scan scans.NoMemory)) = ⊥
EndsTop ask ty before after (Err (errors.Scan e)) = IsTopStopped ask before after e
