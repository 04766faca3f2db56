-- What the exit status of a run tells whose arguments ask the first rows by a key.
use Rattle.std.specs.Prelude.{◌≡◌, true, false, cond, map, length, Option, Some, None}
use Rattle.vx_dtype.specs.Types.{Bytes}
use Rattle.vx_semantics.specs.Breaks.{Cause}
use Rattle.vx_semantics.specs.Scans.{read_columns}
use Rattle.vx_display.specs.ValueTexts.{value_text}
use Rattle.vx_io.specs.Ends.{Added}
use Rattle.vx_scan.specs.Scanning.{AreAmong}
use Rattle.vx_scan.specs.ScanLaws.{distinct_reads}
use Rattle.vx_scan.specs.Stores.{StoreSeen}
use Rattle.vx_laws_topk.specs.TopRows.{TopAsk, first_rows, values_of, all_keyed, top_skipped}
use Rattle.vx_laws_topk.specs.TopPhases.{top_reads, top_asked}
use Rattle.vx_request.specs.Requests.{RequestedScan}
use Rattle.vx_query.specs.Reports.{report_text}
use Rattle.vx_query.specs.Refusals.{key_refusal_name, break_name, refusal_line}
use Rattle.vx_query.specs.TopWords.{AskedTop, KeyRefusal}
use Rattle.vx_query.specs.Running.{End, IsTaken, HoldsTop, HoldsNoKey, HasNoKey, words_of, top_form, scan_table}
use Rattle.vx_query.specs.Running.{top_report, topped_store, top_broken_store, top_breaks, top_breaks_by}
use Rattle.vx_query.specs.Causes.{IsUnscanned}

-- an input was taken that holds the search for the first rows that the words ask
pub record AsksTop (top : AskedTop) (in_before in_after : End) : Type 0 where
  pub input : Bytes
  pub asked : RequestedScan
  pub ask : TopAsk
  pub words : words_of ask ≡ top
  pub taken : IsTaken in_before in_after input
  pub asks : HoldsTop input asked ask

-- a report was written whole: of the first rows, no phase of whose search breaks, and whose store is held
pub record IsTopped (top : AskedTop) (in_before in_after out_before out_after : End) (used : Option StoreSeen) : Type 0 where
  pub search : AsksTop top in_before in_after
  pub unbroken : top_breaks search.asked search.ask ≡ false
  pub written : Added out_before.bytes out_after.bytes (top_report search.asked search.ask)
  pub held : used ≡ Some (topped_store search.asked search.ask)

-- an input was taken that holds two texts that spell expressions, and of whose table the name isn't the key, and the line of the refusal was written; no
-- store is held
pub record IsUnkeyed (top : AskedTop) (in_before in_after out_before out_after : End) (used : Option StoreSeen) : Type 0 where
  pub input : Bytes
  pub refusal : KeyRefusal
  pub taken : IsTaken in_before in_after input
  pub cause : HoldsNoKey refusal top.key input
  pub written : Added out_before.bytes out_after.bytes (refusal_line (key_refusal_name refusal))
  pub unheld : used ≡ None

-- an input was taken whose expressions are refused, though its key isn't
abbrev pub IsKeyedUnscanned : AskedTop → End → End → End → End → Option StoreSeen → Type 0
IsKeyedUnscanned top in_before in_after out_before out_after used =
    (found : IsUnscanned in_before in_after out_before out_after used) × (¬ (HasNoKey (Some (top_form top)) found.input))

-- the first phase of the search that breaks does so by this cause
pub record HasTopBroken (cause : Cause) (top : AskedTop) (in_before in_after : End) : Type 0 where
  pub search : AsksTop top in_before in_after
  pub breaks : top_breaks_by cause search.asked search.ask ≡ true

-- a search broke, and the line of the cause was written; the store is held with the reads up to there
pub record IsTopStopped (top : AskedTop) (in_before in_after out_before out_after : End) (used : Option StoreSeen) : Type 0 where
  pub cause : Cause
  pub broken : HasTopBroken cause top in_before in_after
  pub written : Added out_before.bytes out_after.bytes (refusal_line (break_name cause))
  pub held : used ≡ Some (top_broken_store broken.search.asked broken.search.ask)

-- the store after a search: with the reads up to the end of its first phase that breaks where one does, with all where none does
abbrev pub top_store_after : RequestedScan → TopAsk → StoreSeen
top_store_after a ask = cond (top_breaks a ask) (top_broken_store a ask) (topped_store a ask)

-- the store that was searched: each of its reads is of a block that the filter alone doesn't rule out, of which none is one where no row is asked, and of
-- a column that the filter, the key or the projection asks; and none stands twice
pub record HasTopReads (top : AskedTop) (in_before in_after : End) (store : StoreSeen) : Type 0 where
  pub search : AsksTop top in_before in_after
  pub held : store ≡ top_store_after search.asked search.ask
  pub all_asked : AreAmong store.log (top_asked search.ask search.asked.zones)
  pub distinct : distinct_reads store.log ≡ true

-- an end that tells its bytes, which hold the search for the first rows that are asked so
pub record TellsTop (before : End) : Type 0 where
  pub input : Bytes
  pub told : before.bytes ≡ Some input
  pub asked : RequestedScan
  pub ask : TopAsk
  pub asks : HoldsTop input asked ask

-- the report of a search with the first of all rows at which the filter means true, whatever the statistics say
abbrev pub whole_top_report : RequestedScan → TopAsk → Bytes
whole_top_report a ask =
    report_text (map value_text (values_of (first_rows ask (all_keyed ask (scan_table a))))) (top_skipped ask (scan_table a) a.zones)
    (read_columns (scan_table a) (top_reads ask (scan_table a) a.zones)) (length (top_reads ask (scan_table a) a.zones))
