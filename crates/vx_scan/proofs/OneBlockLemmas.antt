-- How the scan of one block ends, by what its turn did.
use Rattle.std.proofs.Common.{◌≡◌, ap, ◌∙◌, sym, ℕ, Bool, true, false, Option, List, [], ◌∷◌, ◌++◌, Ok, Err, subst, inl, inr}
use Rattle.std.proofs.lemmas.List.{append-nil}
use Rattle.vx_dtype.specs.TypeViews.{type_view}
use Rattle.vx_dtype.specs.Types.{Ty}
use Rattle.vx_dtype.specs.Values.{Val}
use Rattle.vx_expr.specs.Trees.{Tree}
use Rattle.vx_semantics.specs.Meaning.{Slots}
use Rattle.vx_semantics.specs.Pruning.{rules_out}
use Rattle.vx_semantics.specs.Scans.{Phase, block_phases, phase_reads, phases_to_break}
use Rattle.vx_semantics.specs.Tables.{Zones, row_type}
use Rattle.vx_scan.specs.ErrorKinds.{ErrorKind, of_memory, of_text, of_types, of_break, of_read, kind_of}
use Rattle.vx_scan.specs.Stores.{Read, StoreSeen}
use Rattle.vx_scan.specs.Reports.{Report}
use Rattle.vx_scan.specs.Opening.{IsPreparedScan}
use Rattle.vx_scan.specs.BlockRuns.{Runs, StopsBlock, RunsBlock, RunsBlockOf}
use Rattle.vx_scan.specs.BlockScanning.{IsBlockReport, StopsInBlock, IsBlockScanStopped, IsBlockScanOf}
use Rattle.vx_scan.specs.Steps.{Finding, TakesTurn}
use Rattle.vx_scan.specs.declared.errors.ScanError.{ScanError}
use Rattle.vx_scan.specs.declared.errors.ScanError.TheVariants as errors
use Rattle.vx_scan.specs.declared.preparing.PreparedScan.{PreparedScan}
use Rattle.vx_scan.proofs.PrepareLemmas.{scan_typed}
use Rattle.vx_scan.proofs.RunLemmas.{on_reads}
use Rattle.vx_scan.proofs.ScanLemmas.{told_so}

-- a run that came to its end, behind which there was no memory
run_cut : (t : Ty) (slots : Slots) (phases : List Phase) (before after : List Read) (failed : Option Read)
    → Runs t slots phases before after failed (Ok tt) → Runs t slots phases before after failed (Err errors.NoMemory)
run_cut t slots phases before after failed h = (
  phase_reads phases,
  [],
  h.0,
  ap (λ (ps : List Phase). phase_reads (phases_to_break t slots ps)) (sym (append-nil phases)) ∙ on_reads t slots phases [] h.1,
)

block_run_cut : (slots : Slots) (f p : Tree) (block : ℕ) (before after : StoreSeen) (was now : List Val)
    → RunsBlock slots f p block before after was now (Ok tt) → RunsBlock slots f p block before after was now (Err errors.NoMemory)
block_run_cut slots f p block before after was now r = record {
  same = r.same;
  made = r.made;
  grown = r.grown;
  asked = r.asked;
  ends = r.ends;
  told = told_so before.held
      (λ table. RunsBlockOf slots f p block table before after was now (Ok tt))
      (λ table. RunsBlockOf slots f p block table before after was now (Err errors.NoMemory))
      (λ table k. record {
        held_rows = k.held_rows;
        there = k.there;
        ran = run_cut (row_type table.columns) slots (block_phases (row_type table.columns) slots f p (block, k.held_rows)) before.log after.log after.failed k.ran;
        adds = tt;
      })
      r.told;
}

-- what the rule of a block answers of a store's zones
pub ruled_of : (slots : Slots) (f : Tree) (block : ℕ) (seen : StoreSeen) (zones : Zones) (out : Bool) → zones ≡ seen.zones → out ≡ rules_out zones slots block f → rules_out seen.zones slots block f ≡ out
ruled_of slots f block seen zones out same h = ap (λ (z : Zones). rules_out z slots block f) (sym same) ∙ sym h

-- no memory before the block was run
unrun : (slots : Slots) (f p : Tree) (block : ℕ) (before after : StoreSeen) (e : ScanError) → after ≡ before → e ≡ errors.NoMemory → IsBlockScanOf slots f p block before after (Err e)
unrun slots f p block before after e same why =
    subst (λ (d : ScanError). IsBlockScanOf slots f p block before after (Err d)) (sym why) (inl same)

-- a run that stopped
stopped : (slots : Slots) (f p : Tree) (block : ℕ) (before after : StoreSeen) (e : ScanError) → StopsInBlock slots f p block before after e
    → IsBlockScanOf slots f p block before after (Err e)
stopped slots f p block before after e h = by (kind_of e) h.run.ends
  where
    by : (k : ErrorKind) → StopsBlock k f p block before after h.run.made → IsBlockScanStopped k slots f p block before after e
    by of_memory ends = inr h
    by of_text ends = ends
    by of_types ends = absurd ends
    by (of_break cause) ends = h
    by of_read ends = h

stops_in : (slots : Slots) (f p : Tree) (scan : PreparedScan) (block : ℕ) (before after : StoreSeen) (was now : List Val) (e : ScanError) → IsPreparedScan before.zones slots f p scan → rules_out before.zones slots block f ≡ false
    → was ≡ [] → RunsBlock slots f p block before after was now (Err e) → StopsInBlock slots f p block before after e
stops_in slots f p scan block before after was now e h kept nothing r = record {
  ty = type_view scan.projection.dtype;
  typed = scan_typed before.zones slots f p scan h;
  kept_in = kept;
  rows = now;
  run = subst (λ (rows : List Val). RunsBlock slots f p block before after rows now (Err e)) nothing r;
}

-- a turn that stopped
pub turn_stopped : (out : Bool) (slots : Slots) (f p : Tree) (scan : PreparedScan) (block : ℕ) (before after : StoreSeen) (was now : Finding) (e : ScanError) → IsPreparedScan before.zones slots f p scan
    → rules_out before.zones slots block f ≡ out → was.rows ≡ [] → TakesTurn out slots f p block before after was now (Err e) → IsBlockScanOf slots f p block before after (Err e)
turn_stopped true slots f p scan block before after was now e h ruled nothing t = unrun slots f p block before after e t.0 t.1
turn_stopped false slots f p scan block before after was now e h ruled nothing (inl t) = unrun slots f p block before after e t.0 t.1
turn_stopped false slots f p scan block before after was now e h ruled nothing (inr r) =
    stopped slots f p block before after e (stops_in slots f p scan block before after was.rows now.rows e h ruled nothing r)

-- a turn behind which there was no memory for the report
pub turn_unreported : (out : Bool) (slots : Slots) (f p : Tree) (scan : PreparedScan) (block : ℕ) (before after : StoreSeen) (was now : Finding) (u : Unit {0}) → IsPreparedScan before.zones slots f p scan
    → rules_out before.zones slots block f ≡ out → was.rows ≡ [] → TakesTurn out slots f p block before after was now (Ok u) → IsBlockScanOf slots f p block before after (Err errors.NoMemory)
turn_unreported true slots f p scan block before after was now u h ruled nothing t = inl t.0
turn_unreported false slots f p scan block before after was now u h ruled nothing t =
    inr (stops_in slots f p scan block before after was.rows now.rows errors.NoMemory h ruled nothing (block_run_cut slots f p block before after was.rows now.rows t.0))

-- a turn that is reported
pub turn_reported : (out : Bool) (slots : Slots) (f p : Tree) (scan : PreparedScan) (block : ℕ) (before after : StoreSeen) (was now : Finding) (u : Unit {0}) (report : Report) → IsPreparedScan before.zones slots f p scan
    → rules_out before.zones slots block f ≡ out → was.rows ≡ [] → was.kept ≡ [] → was.skipped ≡ [] → TakesTurn out slots f p block before after was now (Ok u)
    → report.ty ≡ type_view scan.projection.dtype → report.rows ≡ now.rows → report.kept ≡ now.kept → report.skipped ≡ now.skipped
    → report.filter_columns ≡ scan.filter.columns → report.projection_columns ≡ scan.projection.columns → IsBlockReport slots f p block before after report
turn_reported true slots f p scan block before after was now u report h ruled no_rows none_kept none_skipped t ty rows kept skipped asked projected = record {
  typed = scan_typed before.zones slots f p scan h ∙ ap (λ (u : Ty). Ok u) (sym ty);
  filter_columns = asked ∙ h.filter.columns;
  projection_columns = projected ∙ h.projection.columns;
  scanned = inl (record {
    out = ruled;
    unread = t.0;
    rows = rows ∙ t.1 ∙ no_rows;
    kept = kept ∙ t.2 ∙ none_kept;
    skipped = skipped ∙ t.3 ∙ ap (λ (ns : List ℕ). ns ++ (block ∷ [])) none_skipped;
  });
}
turn_reported false slots f p scan block before after was now u report h ruled no_rows none_kept none_skipped t ty rows kept skipped asked projected = record {
  typed = scan_typed before.zones slots f p scan h ∙ ap (λ (u : Ty). Ok u) (sym ty);
  filter_columns = asked ∙ h.filter.columns;
  projection_columns = projected ∙ h.projection.columns;
  scanned = inr (record {
    kept_in = ruled;
    run = subst (λ (ended : List Val). RunsBlock slots f p block before after [] ended (Ok tt)) (sym rows)
        (subst (λ (begun : List Val). RunsBlock slots f p block before after begun now.rows (Ok tt)) no_rows t.0);
    kept = kept ∙ t.1 ∙ ap (λ (ns : List ℕ). ns ++ (block ∷ [])) none_kept;
    skipped = skipped ∙ t.2 ∙ none_skipped;
  });
}
