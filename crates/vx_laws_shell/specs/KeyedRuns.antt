-- How a run gives the first rows by a key: they are found whole, and then written.
use Rattle.std.specs.Prelude.{◌≡◌, ◌⊎◌, ℕ, ◌≤◌, Bool, true, false, List, ◌∷◌, ◌++◌, length, Option, Some}
use Rattle.std.specs.List.{list_any}
use Rattle.vx_io.specs.Counts.{one_more}
use Rattle.vx_io.specs.Ends.{Added, AddedPrefix}
use Rattle.vx_semantics.specs.Breaks.{Cause}
use Rattle.vx_semantics.specs.Tables.{Table, Zones}
use Rattle.vx_laws_topk.specs.TopRows.{TopAsk, top_rows_of, top_skipped}
use Rattle.vx_laws_topk.specs.TopPhases.{top_reads, top_reads_to_break, some_top_phase_breaks, first_top_breaks_by}
use Rattle.vx_scan.specs.Stores.{Read}
use Rattle.vx_laws_shell.specs.Answers.{answer_found, found_by_key}
use Rattle.vx_laws_shell.specs.Lines.{row_lines}
use Rattle.vx_laws_shell.specs.OrderedRuns.{RunEnd, finished, without_value, without_column, without_room, without_output, counts_by, WritesAnswer}
use Rattle.vx_laws_shell.specs.Running.{End}

-- the rows were found, by these reads
abbrev pub FoundKeyed : TopAsk → Table → Zones → List Read → Type 0
FoundKeyed ask table zones made = (made ≡ top_reads ask table zones) × (some_top_phase_breaks ask table zones ≡ false)

-- and first bytes of them were written
abbrev pub CutKeyed : TopAsk → Table → Zones → List Read → End → End → Type 0
CutKeyed ask table zones made before after =
    FoundKeyed ask table zones made × AddedPrefix before.bytes after.bytes (row_lines (top_rows_of ask table zones))

-- a run that made these reads, of which this one failed last, skipped so many blocks and wrote so many rows
abbrev pub RunsByKey : RunEnd → TopAsk → Table → Zones → List Read → Option Read → ℕ → ℕ → End → End → Type 0
RunsByKey finished ask table zones made failed skipped rows before after =
    FoundKeyed ask table zones made × Added before.bytes after.bytes (row_lines (top_rows_of ask table zones))
    × (skipped ≡ length (top_skipped ask table zones)) × (rows ≡ length (top_rows_of ask table zones))
RunsByKey without_value ask table zones made failed skipped rows before after =
    (cause : Cause) × (made ≡ top_reads_to_break ask table zones) × (first_top_breaks_by cause ask table zones ≡ true) × (after ≡ before)
RunsByKey without_column ask table zones made failed skipped rows before after =
    (read : Read) × (left : List Read) × (failed ≡ Some read) × (top_reads_to_break ask table zones ≡ made ++ (read ∷ left)) × (after ≡ before)
RunsByKey without_room ask table zones made failed skipped rows before after = (after ≡ before) ⊎ CutKeyed ask table zones made before after
RunsByKey without_output ask table zones made failed skipped rows before after =
    CutKeyed ask table zones made before after × (one_more before.faults ≤ after.faults)

-- such a run writes the answer, whichever columns are damaged that weren't read
abbrev pub KeyedRunsWriteAnswers : Type 0
KeyedRunsWriteAnswers =
    (is_damaged : Read → Bool) (ask : TopAsk) (table : Table) (zones : Zones) (made : List Read) (failed : Option Read) (skipped rows : ℕ) (before after : End)
    (end : RunEnd) → RunsByKey end ask table zones made failed skipped rows before after → list_any is_damaged made ≡ false
    → WritesAnswer end is_damaged (answer_found is_damaged table (found_by_key is_damaged table zones ask)) (counts_by table made skipped rows) failed before after
