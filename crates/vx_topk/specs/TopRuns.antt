-- For the checker: no public clause cites this.
-- How the phases in which first rows are found are run through, and how far the finding has come before a block.
use Rattle.std.specs.Prelude.{◌≡◌, ◌⊎◌, ℕ, ◌+◌, true, false, List, [], ◌∷◌, ◌++◌, map, take, length, Option, Some, Result, Ok, Err}
use Rattle.std.specs.List.{list_any, flat_map}
use Rattle.vx_dtype.specs.Types.{Ty}
use Rattle.vx_dtype.specs.Values.{Val}
use Rattle.std.specs.declared.alloc.Global.{Global}
use Rattle.std.specs.declared.vec.Vec.{Vec}
use Rattle.vx_dtype.specs.declared.values.ScalarValue.{ScalarValue}
use Rattle.vx_column.specs.Columns.{seen_rows}
use Rattle.vx_expr.specs.Trees.{Tree}
use Rattle.vx_semantics.specs.Meaning.{Slots}
use Rattle.vx_semantics.specs.Breaks.{by_sum, by_cast}
use Rattle.vx_semantics.specs.Tables.{Table, Zones, row_type, numbered_from}
use Rattle.vx_laws_topk.specs.TopRows.{Keyed, TopAsk, bounded_filter, bound_before, bound_slots, top_skips, found_over, skipped_over}
use Rattle.vx_laws_topk.specs.TopPhases.{SlottedPhase, keyed_projection, phases_over, slotted_breaks, slotted_to_break, first_slotted_breaks_by, slotted_reads}
use Rattle.vx_laws_topk.specs.BoundLaws.{unpacked}
use Rattle.vx_scan.specs.Stores.{Read, StoreSeen, WhereTold, IsSameStore}
use Rattle.vx_scan.specs.BlockRuns.{block_asked, RunsBlock}
use Rattle.vx_scan.specs.Runs.{kept_numbers_before, skipped_numbers_before, GrowsAmong}
use Rattle.vx_scan.specs.Scanning.{AreAmong}
use Rattle.vx_scan.specs.declared.errors.ScanError.{ScanError}
use Rattle.vx_scan.specs.declared.errors.ScanError.TheVariants as errors
use Rattle.vx_topk.specs.FirstRows.{HoldFirst, start_of}
use Rattle.vx_topk.specs.RuledRuns.{AreRuledBehind}
use Rattle.vx_topk.specs.TopEnds.{numbers_of, is_read_of, IsTopBroken, IsTopFault, IsTopCutOff}
use Rattle.vx_topk.specs.declared.first_rows.FirstRows.{FirstRows}
use Rattle.vx_topk.specs.declared.finding.Finding.{Finding}

-- what a run through phases makes of the log, and how it ends: through all, of which none breaks; at the first that breaks, by its cause; at a read that
-- failed; or without memory
abbrev pub TopRuns : Ty → List SlottedPhase → List Read → List Read → Option Read → Result (Unit {0}) ScanError → Type 0
TopRuns t phases before after failed (Ok u) = (after ≡ before ++ slotted_reads phases) × (list_any (slotted_breaks t) phases ≡ false)
TopRuns t phases before after failed (Err errors.Overflow) =
    (after ≡ before ++ slotted_reads (slotted_to_break t phases)) × (first_slotted_breaks_by by_sum t phases ≡ true)
TopRuns t phases before after failed (Err errors.BadCast) =
    (after ≡ before ++ slotted_reads (slotted_to_break t phases)) × (first_slotted_breaks_by by_cast t phases ≡ true)
TopRuns t phases before after failed (Err errors.StoreFault) =
    (read : Read) × (done : List Read) × (left : List Read) × (failed ≡ Some read) × (after ≡ before ++ done)
    × (slotted_reads (slotted_to_break t phases) ≡ done ++ (read ∷ left))
TopRuns t phases before after failed (Err errors.NoMemory) =
    (done : List Read) × (left : List Read) × (after ≡ before ++ done) × (slotted_reads (slotted_to_break t phases) ≡ done ++ left)
TopRuns t phases before after failed (Err _) = ⊥

-- the phases, the rows found and the skipped blocks of the blocks before a block
abbrev pub top_phases_before : TopAsk → Table → Zones → ℕ → List SlottedPhase
top_phases_before ask table zones i = phases_over ask (row_type table.columns) zones [] (numbered_from 0 (take i table.blocks))

abbrev pub found_before : TopAsk → Table → Zones → ℕ → List Keyed
found_before ask table zones i = found_over ask (row_type table.columns) zones [] (numbered_from 0 (take i table.blocks))

abbrev pub top_skipped_before : TopAsk → Table → Zones → ℕ → List ℕ
top_skipped_before ask table zones i = skipped_over ask (row_type table.columns) zones [] (numbered_from 0 (take i table.blocks))

-- the reads that may be made in the blocks before a block that the filter alone doesn't rule out
abbrev pub top_asked_before : TopAsk → Zones → ℕ → List Read
top_asked_before ask zones i =
    flat_map (block_asked zones (bounded_filter ask) (keyed_projection ask)) (kept_numbers_before zones [] ask.filter_expr i)

-- the blocks that are skipped before a block are blocks before it, in order, and those that the filter alone rules out are among them
pub record SkipsBefore (ask : TopAsk) (zones : Zones) (i : ℕ) (skips : List ℕ) : Type 0 where
  pub blocks : AreAmong skips (numbers_of (take i zones.lengths))
  pub ruled_out : AreAmong (skipped_numbers_before zones [] ask.filter_expr i) skips

-- the finding has come to a block: nothing failed, and the first of the rows that were found before it are held
pub record IsFoundTo (ask : TopAsk) (v : Ty) (i : ℕ) (before after : StoreSeen) (found : List Keyed) (first : FirstRows) (skips : List ℕ) : Type 0 where
  pub same : IsSameStore before after
  pub unfailed : after.failed ≡ before.failed
  pub among : GrowsAmong (top_asked_before ask before.zones i) before.log after.log
  pub holds : HoldFirst ask.key_type v found (start_of i) first
  pub rows : WhereTold before.held (λ table. found ≡ found_before ask table before.zones i)
  pub ran : WhereTold before.held
      (λ table. TopRuns (row_type table.columns) (top_phases_before ask table before.zones i) before.log after.log after.failed (Ok tt))
  pub skipped : WhereTold before.held (λ table. skips ≡ top_skipped_before ask table before.zones i)
  pub skips_before : SkipsBefore ask before.zones i skips
  pub unread : list_any (is_read_of skips) among.0 ≡ false

-- the run of a block that begins with no rows: the rows that it gave, or how it ended
abbrev pub GivesRows : Slots → Tree → Tree → ℕ → Ty → StoreSeen → StoreSeen → Result (Vec ScalarValue Global) ScanError → Type 0
GivesRows slots f p block u before after (Ok rows) = RunsBlock slots f p block before after [] (seen_rows u rows.items) (Ok tt)
GivesRows slots f p block u before after (Err e) = (rows : List Val) × RunsBlock slots f p block before after [] rows (Err e)

-- the rows of a block that isn't skipped: what its scan under the bound gave, and how it ended
abbrev pub RunsUnder : TopAsk → List Keyed → ℕ → StoreSeen → StoreSeen → List Val → Result (Unit {0}) ScanError → Type 0
RunsUnder ask found i before after rows result =
    RunsBlock (bound_slots ask (bound_before ask found)) (bounded_filter ask) (keyed_projection ask) i before after [] rows result

-- the turn of a block behind the rows that were found before it: it is skipped, or its rows are put in
pub record Skips (ask : TopAsk) (v : Ty) (found : List Keyed) (i : ℕ) (before after : StoreSeen) (was now : Finding) : Type 0 where
  pub out : top_skips ask before.zones found i ≡ true
  pub stays : after ≡ before
  pub holds : HoldFirst ask.key_type v found (start_of (i + 1)) now.first
  pub skipped : now.skipped.items ≡ was.skipped.items ++ i ∷ []
  pub ruled : AreRuledBehind ask before.zones found now.ruled

pub record Keeps (ask : TopAsk) (v : Ty) (found : List Keyed) (i : ℕ) (before after : StoreSeen) (was now : Finding) : Type 0 where
  pub kept : top_skips ask before.zones found i ≡ false
  pub given : List Val
  pub ran : RunsUnder ask found i before after given (Ok tt)
  pub holds : HoldFirst ask.key_type v (found ++ map unpacked given) (start_of (i + 1)) now.first
  pub skipped : now.skipped.items ≡ was.skipped.items
  pub ruled : AreRuledBehind ask before.zones (found ++ map unpacked given) now.ruled

-- or it ends the finding: without memory before or behind the block's run, or as the run ended
pub record Ends (ask : TopAsk) (found : List Keyed) (i : ℕ) (before after : StoreSeen) (e : ScanError) : Type 0 where
  pub kept : top_skips ask before.zones found i ≡ false
  pub given : List Val
  pub ran : RunsUnder ask found i before after given (Err e)

pub record EndsBehind (ask : TopAsk) (found : List Keyed) (i : ℕ) (before after : StoreSeen) (e : ScanError) : Type 0 where
  pub kept : top_skips ask before.zones found i ≡ false
  pub given : List Val
  pub ran : RunsUnder ask found i before after given (Ok tt)
  pub memory : e ≡ errors.NoMemory

abbrev pub TakesTurn : TopAsk → Ty → List Keyed → ℕ → StoreSeen → StoreSeen → Finding → Finding → Result (Unit {0}) ScanError → Type 0
TakesTurn ask v found i before after was now (Ok u) = Skips ask v found i before after was now ⊎ Keeps ask v found i before after was now
TakesTurn ask v found i before after was now (Err e) =
    ((after ≡ before) × (e ≡ errors.NoMemory)) ⊎ (Ends ask found i before after e ⊎ EndsBehind ask found i before after e)

-- how the finding ends: behind the last block, or before
abbrev pub IsTopStopped : TopAsk → StoreSeen → StoreSeen → ScanError → Type 0
IsTopStopped ask before after errors.Overflow = IsTopBroken by_sum ask before after
IsTopStopped ask before after errors.BadCast = IsTopBroken by_cast ask before after
IsTopStopped ask before after errors.StoreFault = IsTopFault ask before after
IsTopStopped ask before after errors.NoMemory = IsTopCutOff ask before after
IsTopStopped ask before after _ = ⊥

-- the finding has come to a block, and what is held of the pruning rule is what it says with the bound behind the rows that were found
abbrev pub FindsTo : TopAsk → Ty → ℕ → StoreSeen → StoreSeen → Finding → Type 0
FindsTo ask v i before after finding =
    (found : List Keyed) × IsFoundTo ask v i before after found finding.first finding.skipped.items × AreRuledBehind ask before.zones found finding.ruled

abbrev pub EndsFinding : TopAsk → Ty → StoreSeen → StoreSeen → Result Finding ScanError → Type 0
EndsFinding ask v before after (Ok finding) = FindsTo ask v (length before.zones.lengths) before after finding
EndsFinding ask v before after (Err e) = IsTopStopped ask before after e
