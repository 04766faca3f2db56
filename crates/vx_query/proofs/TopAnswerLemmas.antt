-- The answer to an input of which first rows are asked: how the search in a store that wasn't read yet ends.
use Rattle.std.proofs.Common.{◌≡◌, ◌≢◌, ◌∙◌, sym, ap, refl, subst, arith, inl, inr, Bool, true, false, length, map, Some, Ok, Err}
use Rattle.std.proofs.lemmas.Option.{same_Some}
use Rattle.std.specs.String.{string_bytes}
use Rattle.std.specs.declared.string.String.{String}
use Rattle.std.specs.declared.alloc.Global.{Global}
use Rattle.vx_dtype.specs.Types.{Bytes, Ty}
use Rattle.vx_expr.specs.Trees.{Tree}
use Rattle.vx_semantics.specs.Breaks.{Cause, by_sum, by_cast}
use Rattle.vx_semantics.specs.Scans.{read_columns}
use Rattle.vx_display.specs.ValueTexts.{value_text}
use Rattle.vx_wire.specs.Encodings.{is_default_kind}
use Rattle.vx_wire.specs.declared.ExprEncoding.{ExprEncoding}
use Rattle.vx_tables.specs.Blocks.{table_of_blocks}
use Rattle.vx_scan.specs.ErrorKinds.{ErrorKind, of_memory, of_text, of_types, of_break, of_read, kind_of, OnlyOfText}
use Rattle.vx_scan.specs.Opening.{Decodes}
use Rattle.vx_scan.specs.Stores.{StoreSeen, IsSameStore}
use Rattle.vx_scan.specs.StoreViews.{StoreState, store_seen}
use Rattle.vx_scan.specs.Texts.{SpellsTree, IsTextRefused, SpellBoth, AreRefused}
use Rattle.vx_scan.specs.declared.errors.Side.TheVariants.{Filter, Projection}
use Rattle.vx_scan.specs.declared.errors.ScanError.{ScanError}
use Rattle.vx_scan.specs.declared.errors.ScanError.TheVariants as scans
use Rattle.vx_laws_topk.specs.TopRows.{TopAsk}
use Rattle.vx_laws_topk.specs.TopPhases.{top_reads, top_reads_to_break}
use Rattle.vx_scan.proofs.KindLemmas.{text_refused_so}
use Rattle.vx_topk.specs.TopEnds.{Topped, top_view, IsTopReport, IsTopBroken, IsTopUnscanned, IsTopOf}
use Rattle.vx_topk.specs.declared.reports.TopReport.{TopReport}
use Rattle.vx_topk.specs.declared.errors.TopError.{TopError}
use Rattle.vx_topk.specs.declared.errors.TopError.TheVariants as tops
use Rattle.vx_request.specs.Requests.{RequestedScan, request_of}
use Rattle.vx_request.specs.RequestViews.{RequestAnswers, scan_view}
use Rattle.vx_request.specs.declared.errors.RequestError.{RequestError}
use Rattle.vx_request.specs.declared.errors.RequestError.TheVariants as requests
use Rattle.vx_query.specs.Reports.{report_text}
use Rattle.vx_query.specs.EndingViews.{break_ending}
use Rattle.vx_query.specs.RefusalViews.{kind_refusal, scan_refusal, request_refusal}
use Rattle.vx_query.specs.Running.{SpellsScan, HasNoKey, top_form, scan_table, top_report, topped_store, top_broken_store, top_breaks, top_breaks_by}
use Rattle.vx_query.specs.TopWords.{AskedTop, IsNoKey}
use Rattle.vx_query.specs.TopViews.{DecodesBoth, ask_of, TopEndsBy, IsKey, IsSearched, IsTopAnswered, IsSearchStopped, IsUnsearched, IsTopRefused, IsTopUnanswered}
use Rattle.vx_query.specs.declared.endings.Ending.{Ending}
use Rattle.vx_query.specs.declared.endings.Ending.TheVariants.{Report as Told, Overflow, BadCast}
use Rattle.vx_query.specs.declared.refusals.Refusal.{Refusal}
use Rattle.vx_query.specs.declared.refusals.Refusal.TheVariants.{NoMemory, ReadFault, InputTooLong, BadJson, BadRequest, BadHex, BadTable, BadHexText, Scan, Query, NotSerializable, LongPart, UnknownKey, BadKey, LongTable, FileScan}
use Rattle.vx_query.proofs.AnswerLemmas.{report_text_of_same, fresh, store_after}
use Rattle.vx_query.proofs.KeyLemmas.{no_key_typed, text_keyed}
use Rattle.vx_query.proofs.RefusalLemmas.{one_ok}

-- ---- the two texts

-- the filter's text is refused, or the projection's behind one that is spelled
pub filter_undecoded : (holds : ExprEncoding → Bool) (f p : Bytes) (e : ScanError) → holds ≡ is_default_kind → Decodes holds Filter f (Err e) → DecodesBoth f p (Err e)
filter_undecoded holds f p e kinds h =
    text_refused_so (kind_of e) (IsTextRefused is_default_kind Filter f e) (AreRefused is_default_kind f p e) (λ r. inl r)
    (subst (λ k. Decodes k Filter f (Err e)) kinds h)

pub projection_undecoded : (holds : ExprEncoding → Bool) (f p : Bytes) (x : Tree) (e : ScanError) → holds ≡ is_default_kind → SpellsTree holds f x
    → Decodes holds Projection p (Err e) → DecodesBoth f p (Err e)
projection_undecoded holds f p x e kinds spelled h =
    text_refused_so (kind_of e) (IsTextRefused is_default_kind Projection p e) (AreRefused is_default_kind f p e)
    (λ r. inr ((x, subst (λ k. SpellsTree k f x) kinds spelled), r))
    (subst (λ k. Decodes k Projection p (Err e)) kinds h)

pub both_decoded : (holds : ExprEncoding → Bool) (f p : Bytes) (x y : Tree) → holds ≡ is_default_kind → SpellsTree holds f x → SpellsTree holds p y
    → SpellBoth is_default_kind f p x y
both_decoded holds f p x y kinds h k = record {
  filter_spelled = subst (λ z. SpellsTree z f x) kinds h;
  projection_spelled = subst (λ z. SpellsTree z p y) kinds k;
}

-- ---- how a search ends

-- the text and the store of a search that reports
report_told : (a : RequestedScan) (ask : TopAsk) (s : StoreState) (r : Topped) (text : Bytes) → IsSameStore (fresh a) (store_seen s)
    → IsTopReport ask (fresh a) (store_seen s) r
    → text ≡ report_text (map value_text r.rows) r.skipped (read_columns (table_of_blocks s.zones s.blocks) s.reads) (length s.reads)
    → (top_breaks a ask ≡ false) × (text ≡ top_report a ask) × (store_seen s ≡ topped_store a ask)
report_told a ask s r text same report told =
    let held : table_of_blocks s.zones s.blocks ≡ scan_table a = same_Some _ _ same.held in
    let reads : s.reads ≡ top_reads ask (scan_table a) a.zones = report.reads.grown ∙ report.reads.told in (
      report.unbroken,
      told ∙ report_text_of_same _ _ _ _ _ _ _ _ (ap (map value_text) report.rows) report.skipped (λ i. read_columns (held i) (reads i)) (ap length reads),
      store_after a (top_reads ask (scan_table a) a.zones) (store_seen s) same reads report.unfailed,
    )

pub searched : (a : RequestedScan) (top : AskedTop) (f p : Tree) (before : StoreSeen) (s : StoreState) (r : TopReport) (text : String Global)
    → before ≡ fresh a → IsSameStore before (store_seen s) → IsTopOf f p top.key top.descending top.count before (store_seen s) (Ok r)
    → string_bytes text
    ≡ report_text (map value_text (top_view r).rows) (top_view r).skipped (read_columns (table_of_blocks s.zones s.blocks) s.reads) (length s.reads)
    → IsSearched a top f p (Told text) (store_seen s)
searched a top f p before s r text is same ended told =
    let own = subst (λ b. IsTopOf f p top.key top.descending top.count b (store_seen s) (Ok r)) is ended in
    record {
      key_type = own.0;
      key = record { column = own.1.typed.column; plain = own.1.typed.plain };
      ty = (top_view r).ty;
      typed = own.1.typed.typed;
      ends = report_told a (ask_of top f p own.0) s (top_view r) (string_bytes text) (subst (λ b. IsSameStore b (store_seen s)) is same) own.1 told;
    }

-- one that breaks
ends_broken : (cause : Cause) (a : RequestedScan) (ask : TopAsk) (s : StoreSeen) → (top_breaks_by cause a ask ≡ true) × (s ≡ top_broken_store a ask)
    → TopEndsBy a ask (break_ending cause) s
ends_broken by_sum a ask s h = h
ends_broken by_cast a ask s h = h

broken_search : (cause : Cause) (a : RequestedScan) (top : AskedTop) (f p : Tree) (t : Ty) (s : StoreSeen) → IsSameStore (fresh a) s
    → IsTopBroken cause (ask_of top f p t) (fresh a) s → IsSearched a top f p (break_ending cause) s
broken_search cause a top f p t s same broken = record {
  key_type = t;
  key = record { column = broken.typed.column; plain = broken.typed.plain };
  ty = broken.ty;
  typed = broken.typed.typed;
  ends = ends_broken cause a (ask_of top f p t) s (
    broken.first_breaks,
    store_after a (top_reads_to_break (ask_of top f p t) (scan_table a) a.zones) s same (broken.reads.grown ∙ broken.reads.told) broken.unfailed,
  );
}

-- and one that gives no report
unsearched_fresh : (a : RequestedScan) (top : AskedTop) (f p : Tree) (s : StoreSeen) (e : TopError) → IsSameStore (fresh a) s
    → IsTopOf f p top.key top.descending top.count (fresh a) s (Err e) → IsUnsearched a top f p e s
unsearched_fresh a top f p s tops.NoMemory same ended = tt
unsearched_fresh a top f p s tops.UnknownKey same ended = ended.1
unsearched_fresh a top f p s tops.BadKey same ended = ended.1
unsearched_fresh a top f p s (tops.Scan e) same ended = by (kind_of e) ended
  where
    by : (k : ErrorKind) → IsTopUnscanned k f p top.key top.descending top.count (fresh a) s e → IsSearchStopped k a top f p e s
    by of_memory h = h
    by of_text h = h
    by of_types h = ((h.0.0, record { column = h.0.1; plain = h.0.2 }), h.1.1)
    by (of_break cause) h = broken_search cause a top f p h.0 s same h.1
    by of_read h = absurd (omega (arith, h.1.risen, same.quiet refl))

pub unsearched : (a : RequestedScan) (top : AskedTop) (f p : Tree) (before s : StoreSeen) (e : TopError) → before ≡ fresh a → IsSameStore before s
    → IsTopOf f p top.key top.descending top.count before s (Err e) → IsUnsearched a top f p e s
unsearched a top f p before s e is same ended =
    unsearched_fresh a top f p s e (subst (λ b. IsSameStore b s) is same)
    (subst (λ b. IsTopOf f p top.key top.descending top.count b s (Err e)) is ended)

-- that is never a read that failed
pub unfailing : (a : RequestedScan) (top : AskedTop) (f p : Tree) (s : StoreSeen) (e : TopError) → IsUnsearched a top f p e s → e ≢ tops.Scan scans.StoreFault
unfailing a top f p s e h is = subst (λ g. IsUnsearched a top f p g s) is h

-- ---- the search that an input holds

-- one whose expressions are typed and whose key is good is answered by how it ends
pub answered_by : (top : AskedTop) (input : Bytes) (a b : RequestedScan) (f p : Tree) (ending : Ending) (seen : StoreSeen) → request_of input ≡ Ok a
    → SpellsScan a f p → a.zones ≡ b.zones → a.blocks ≡ b.blocks → IsSearched b top f p ending seen → IsTopAnswered top input ending seen
answered_by top input a b f p ending seen found spelled zones blocks searched =
    let same : b ≡ moved = λ i. record { zones = sym zones i; blocks = sym blocks i; filter = b.filter; projection = b.projection } in
    by (subst (λ (c : RequestedScan). IsSearched c top f p ending seen) same searched)
  where
    moved : RequestedScan
    moved = record { zones = a.zones; blocks = a.blocks; filter = b.filter; projection = b.projection }

    ends_so : (ask : TopAsk) (e : Ending) → TopEndsBy moved ask e seen → TopEndsBy a ask e seen
    ends_so ask (Told text) h = h
    ends_so ask Overflow h = h
    ends_so ask BadCast h = h

    by : IsSearched moved top f p ending seen → IsTopAnswered top input ending seen
    by h = record {
      asked = a;
      filter = f;
      projection = p;
      key_type = h.key_type;
      holds = record {
        scan = record { asked = found; spelled = spelled; ty = h.ty; typed = h.typed };
        column = h.key.column;
        plain = h.key.plain;
      };
      ends = ends_so (ask_of top f p h.key_type) ending h.ends;
    }

-- one of which the key is refused, or the expressions by their typing, is refused so
pub unanswered_by : (top : AskedTop) (input : Bytes) (a b : RequestedScan) (f p : Tree) (r : Refusal) → request_of input ≡ Ok a
    → SpellsScan a f p → a.zones ≡ b.zones → a.blocks ≡ b.blocks → IsTopRefused b top f p r → IsTopUnanswered top input r
unanswered_by top input a b f p r found spelled zones blocks refused =
    let same : b ≡ moved = λ i. record { zones = sym zones i; blocks = sym blocks i; filter = b.filter; projection = b.projection } in
    by r (subst (λ (c : RequestedScan). IsTopRefused c top f p r) same refused)
  where
    moved : RequestedScan
    moved = record { zones = a.zones; blocks = a.blocks; filter = b.filter; projection = b.projection }

    keyed : (t : Ty) → IsKey top.key moved t → ¬ (HasNoKey (Some (top_form top)) input)
    keyed t key (q, none) =
        let own : none.asked ≡ a = one_ok (request_of input) none.asked a none.held found in
        no_key_typed q top.key a t (subst (IsNoKey q top.key) own none.no_key) key.column key.plain

    by : (r : Refusal) → IsTopRefused moved top f p r → IsTopUnanswered top input r
    by NoMemory h = tt
    by ReadFault h = absurd h
    by InputTooLong h = absurd h
    by BadJson h = absurd h
    by (BadRequest place) h = absurd h
    by (BadHex side) h = absurd h
    by (BadTable refusal) h = absurd h
    by BadHexText h = absurd h
    by (Query e) h = absurd h
    by NotSerializable h = absurd h
    by LongPart h = absurd h
    by LongTable h = absurd h
    by (FileScan e) h = absurd h
    by UnknownKey h = record { asked = a; held = found; filter = f; projection = p; spelled = spelled; no_key = h }
    by BadKey h = record { asked = a; held = found; filter = f; projection = p; spelled = spelled; no_key = h }
    by (Scan e) h = (record { asked = a; held = found; refused = inr (f, p, spelled, h.1) }, keyed h.0.0 h.0.1)

-- one whose texts are refused is refused so
pub undecoded_by : (top : AskedTop) (input : Bytes) (a : RequestedScan) (e : ScanError) → request_of input ≡ Ok a → DecodesBoth a.filter a.projection (Err e)
    → IsTopUnanswered top input (scan_refusal e)
undecoded_by top input a e found h = by (kind_of e) h
  where
    free : AreRefused is_default_kind a.filter a.projection e → ¬ (HasNoKey (Some (top_form top)) input)
    free refused none = text_keyed top.key input e none.0 (record { asked = a; held = found; refused = refused }) none.1

    by : (k : ErrorKind) → OnlyOfText k (AreRefused is_default_kind a.filter a.projection e) → IsTopUnanswered top input (kind_refusal k e)
    by of_memory r = tt
    by of_text r = (record { asked = a; held = found; refused = inl r }, free r)
    by of_types r = absurd r
    by (of_break cause) r = absurd r
    by of_read r = absurd r

-- and one that is no request
pub refused_by : (top : AskedTop) (input : Bytes) (e : RequestError) → RequestAnswers scan_view (request_of input) (Err e)
    → IsTopUnanswered top input (request_refusal e)
refused_by top input requests.NoMemory told = tt
refused_by top input requests.InputTooLong told = told
refused_by top input requests.BadJson told = told
refused_by top input (requests.BadRequest place) told = told
refused_by top input (requests.BadHex side) told = told
refused_by top input (requests.BadTable refusal) told = told
