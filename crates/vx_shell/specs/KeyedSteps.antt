-- For the checker: no public clause cites this.
-- How the first rows by a key are found and refused.
use Rattle.std.specs.Prelude.{◌≡◌, ◌⊎◌, ℕ, length, Result, Ok, Err}
use Rattle.vx_io.specs.Ends.{Added, AddedPrefix}
use Rattle.vx_laws_shell.specs.Lines.{row_lines}
use Rattle.vx_laws_shell.specs.Running.{End}
use Rattle.vx_laws_topk.specs.TopRows.{TopAsk}
use Rattle.vx_scan.specs.ErrorKinds.{kind_of}
use Rattle.vx_scan.specs.Stores.{StoreSeen}
use Rattle.vx_semantics.specs.Breaks.{by_sum, by_cast}
use Rattle.vx_topk.specs.TopEnds.{Topped, top_view, IsTopReport, IsTopBroken, IsTopFault, IsTopCutOff}
use Rattle.vx_topk.specs.declared.errors.TopError.{TopError}
use Rattle.vx_topk.specs.declared.errors.TopError.TheVariants as tops
use Rattle.vx_topk.specs.declared.reports.TopReport.{TopReport}
use Rattle.vx_shell.specs.declared.answers.Found.{Found}
use Rattle.vx_shell.specs.declared.errors.Refusal.{Refusal}
use Rattle.vx_shell.specs.declared.errors.Refusal.TheVariants as refusals
use Rattle.vx_shell.specs.Refusals.{ComesInBlock, IsScanRefusal, CutsRows}

-- the errors that come of typed expressions and a key that is a column of a plain type
abbrev pub ComesOfTop : TopError → Type 0
ComesOfTop tops.NoMemory = Unit {0}
ComesOfTop (tops.Scan error) = ComesInBlock (kind_of error)
ComesOfTop _ = ⊥

-- the refusal of such an error
abbrev pub IsTopRefusal : TopError → Refusal → Type 0
IsTopRefusal tops.NoMemory refusal = refusal ≡ refusals.NoMemory
IsTopRefusal (tops.Scan error) refusal = IsScanRefusal (kind_of error) refusal
IsTopRefusal _ refusal = ⊥

-- how the finding of the first rows ends by a refusal
abbrev pub StopsTop : Refusal → TopAsk → StoreSeen → StoreSeen → Type 0
StopsTop refusals.NoMemory ask before after = (after ≡ before) ⊎ IsTopCutOff ask before after
StopsTop refusals.Overflow ask before after = IsTopBroken by_sum ask before after
StopsTop refusals.BadCast ask before after = IsTopBroken by_cast ask before after
StopsTop refusals.StoreFault ask before after = IsTopFault ask before after
StopsTop _ ask before after = ⊥

-- the report of the first rows, or the refusal
abbrev pub GivesTop : TopAsk → StoreSeen → StoreSeen → Result TopReport Refusal → Type 0
GivesTop ask before after (Ok report) = IsTopReport ask before after (top_view report)
GivesTop ask before after (Err refusal) = StopsTop refusal ask before after

-- the rows of a report of a table with so many blocks were written whole, and what was found is counted; or first bytes of them were, and no more for the
-- reason that the refusal tells
abbrev pub WritesTop : Topped → ℕ → End → End → Result Found Refusal → Type 0
WritesTop report blocks before after (Ok found) =
    Added before.bytes after.bytes (row_lines report.rows) × (found.blocks ≡ blocks) × (found.skipped ≡ length report.skipped)
    × (found.rows ≡ length report.rows)
WritesTop report blocks before after (Err refusal) = AddedPrefix before.bytes after.bytes (row_lines report.rows) × CutsRows refusal before.faults after.faults
