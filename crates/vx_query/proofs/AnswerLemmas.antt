-- The answer to an input: how a scan of a store that wasn't read yet ends.
use Rattle.std.proofs.Common.{◌≡◌, ◌≢◌, ◌∙◌, sym, ap, refl, subst, arith, inl, inr, ℕ, ◌+◌, ◌<◌, Bool, true, false, List, [], ◌∷◌, ◌++◌, length, drop, get_or, map, None, ◌&&◌, Result, Ok, Err}
use Rattle.std.proofs.lemmas.List.{append_assoc, drop_more}
use Rattle.std.proofs.lemmas.Option.{same_Some}
use Rattle.std.specs.List.{filter}
use Rattle.std.specs.Prelude.{IfOk, IfErr}
use Rattle.std.specs.Result.{IsErrAnd}
use Rattle.std.specs.String.{string_bytes}
use Rattle.std.specs.declared.string.String.{String}
use Rattle.std.specs.declared.alloc.Global.{Global}
use Rattle.vx_dtype.specs.Types.{Bytes}
use Rattle.vx_column.specs.Columns.{Column}
use Rattle.vx_expr.specs.Trees.{Tree}
use Rattle.vx_semantics.specs.Breaks.{Cause, by_sum, by_cast}
use Rattle.vx_semantics.specs.Tables.{Zones}
use Rattle.vx_semantics.specs.Scans.{read_columns, reads_to_break}
use Rattle.vx_display.specs.ValueTexts.{value_text}
use Rattle.vx_wire.specs.Encodings.{is_default_kind}
use Rattle.vx_wire.specs.declared.ExprEncoding.{ExprEncoding}
use Rattle.vx_tables.specs.Blocks.{table_of_blocks, table_refusal, have_lengths, have_types}
use Rattle.vx_scan.specs.ErrorKinds.{ErrorKind, of_memory, of_text, of_types, of_break, of_read, kind_of, OnlyOfText}
use Rattle.vx_scan.specs.Reports.{Report, report_view}
use Rattle.vx_scan.specs.Scanning.{IsScan, IsReport, IsScanBroken, IsScanStopped}
use Rattle.vx_scan.specs.ScanLaws.{kind_breaks, is_break}
use Rattle.vx_scan.specs.Stores.{Read, StoreSeen, IsSameStore}
use Rattle.vx_scan.specs.StoreViews.{StoreState, store_seen}
use Rattle.vx_scan.specs.Texts.{SpellBoth, AreRefused}
use Rattle.vx_scan.specs.declared.errors.ScanError.{ScanError}
use Rattle.vx_scan.specs.declared.errors.ScanError.TheVariants as scans
use Rattle.vx_scan.specs.declared.reports.ScanReport.{ScanReport}
use Rattle.vx_query.specs.Reports.{report_text}
use Rattle.vx_request.specs.Requests.{RequestedScan, request_of}
use Rattle.vx_request.specs.RequestViews.{RequestAnswers, scan_view}
use Rattle.vx_request.specs.declared.errors.RequestError.{RequestError}
use Rattle.vx_request.specs.declared.errors.RequestError.TheVariants as requests
use Rattle.vx_query.specs.EndingViews.{break_ending, EndsAs, EndsBy, IsScanned, IsUnreported}
use Rattle.vx_query.specs.Running.{scan_table, scan_reads, scan_report, scan_breaks, scan_breaks_by, store_with, scanned_store, broken_store}
use Rattle.vx_query.specs.RefusalViews.{IsUnanswered, IsUnscanned, request_refusal, kind_refusal, scan_refusal}
use Rattle.vx_query.specs.declared.endings.Ending.{Ending}
use Rattle.vx_query.specs.declared.endings.Ending.TheVariants.{Report as Told}
use Rattle.vx_query.specs.declared.refusals.Refusal.{Refusal}
use Rattle.vx_query.proofs.CellLemmas.{and_left, and_right}

-- reports of equal parts are equal
pub report_text_of_same : (rs rs' : List Bytes) (ss ss' : List ℕ) (ns ns' : List Bytes) (n n' : ℕ) → rs ≡ rs' → ss ≡ ss' → ns ≡ ns' → n ≡ n'
    → report_text rs ss ns n ≡ report_text rs' ss' ns' n'
report_text_of_same rs rs' ss ss' ns ns' n n' a b c d =
    ap (λ x. report_text x ss ns n) a ∙ ap (λ x. report_text rs' x ns n) b ∙ ap (λ x. report_text rs' ss' x n) c ∙ ap (report_text rs' ss' ns') d

-- the first of the items passes, or it doesn't
filter_first : {X : Type 0} (p : X → Bool) (x : X) (xs : List X) → p x ≡ true → filter p (x ∷ xs) ≡ x ∷ filter p xs
filter_first p x xs h = rw h refl

filter_rest : {X : Type 0} (p : X → Bool) (x : X) (xs : List X) → p x ≡ false → filter p (x ∷ xs) ≡ filter p xs
filter_rest p x xs h = rw h refl

-- an item that passes is the next one to be found
pub filter_found : {X : Type 0} (p : X → Bool) (xs found found' : List X) (i : ℕ) (x : X) → i < length xs → x ≡ get_or xs i x → p x ≡ true
    → filter p xs ≡ found ++ filter p (drop i xs) → found' ≡ found ++ (x ∷ []) → filter p xs ≡ found' ++ filter p (drop (i + 1) xs)
filter_found p xs found found' i x h is passes kept new =
    let next : drop i xs ≡ x ∷ drop (i + 1) xs = drop_more xs i x h ∙ ap (λ y. y ∷ drop (i + 1) xs) (sym is) in
    kept ∙ ap (λ ys. found ++ filter p ys) next ∙ ap (λ ys. found ++ ys) (filter_first p x (drop (i + 1) xs) passes)
    ∙ sym (append_assoc found (x ∷ []) (filter p (drop (i + 1) xs))) ∙ ap (λ ys. ys ++ filter p (drop (i + 1) xs)) (sym new)

-- an item that doesn't pass is left out
pub filter_left : {X : Type 0} (p : X → Bool) (xs found : List X) (i : ℕ) (x : X) → i < length xs → x ≡ get_or xs i x → p x ≡ false
    → filter p xs ≡ found ++ filter p (drop i xs) → filter p xs ≡ found ++ filter p (drop (i + 1) xs)
filter_left p xs found i x h is fails kept =
    let next : drop i xs ≡ x ∷ drop (i + 1) xs = drop_more xs i x h ∙ ap (λ y. y ∷ drop (i + 1) xs) (sym is) in
    kept ∙ ap (λ ys. found ++ filter p ys) next ∙ ap (λ ys. found ++ ys) (filter_rest p x (drop (i + 1) xs) fails)

-- the store of a request that wasn't read yet
abbrev pub fresh : RequestedScan → StoreSeen
fresh a = store_with a []

-- a store that is the same but for these reads, none of which failed
pub store_after : (a : RequestedScan) (reads : List Read) (s : StoreSeen) → IsSameStore (fresh a) s → s.log ≡ reads → s.failed ≡ None
    → s ≡ store_with a reads
store_after a reads s same log failed =
    λ i. record { zones = same.zones i; held = same.held i; log = log i; faults = same.quiet refl i; failed = failed i; faultless = same.faultless i }

-- the text and the store of a scan that reports
report_told : (a : RequestedScan) (f p : Tree) (s : StoreState) (r : Report) (text : Bytes) → IsSameStore (fresh a) (store_seen s)
    → IsReport [] f p (fresh a) (store_seen s) r
    → text ≡ report_text (map value_text r.rows) r.skipped (read_columns (table_of_blocks s.zones s.blocks) s.reads) (length s.reads)
    → (scan_breaks a f p ≡ false) × (text ≡ scan_report a f p) × (store_seen s ≡ scanned_store a f p)
report_told a f p s r text same report told =
    let held : table_of_blocks s.zones s.blocks ≡ scan_table a = same_Some _ _ same.held in
    let reads : s.reads ≡ scan_reads a f p = report.reads.grown ∙ report.reads.told in (
      report.unbroken,
      told ∙ report_text_of_same _ _ _ _ _ _ _ _ (ap (map value_text) report.rows) report.skipped (λ i. read_columns (held i) (reads i)) (ap length reads),
      store_after a (scan_reads a f p) (store_seen s) same reads report.unfailed,
    )

-- and of one that breaks
broken_told : (cause : Cause) (a : RequestedScan) (f p : Tree) (s : StoreSeen) → IsSameStore (fresh a) s → IsScanBroken cause [] f p (fresh a) s
    → (scan_breaks_by cause a f p ≡ true) × (s ≡ broken_store a f p)
broken_told cause a f p s same broken =
    (broken.first_breaks, store_after a (reads_to_break (scan_table a) a.zones [] f p) s same (broken.reads.grown ∙ broken.reads.told) broken.unfailed)

-- a scan that reports ends so
pub reported_scan : (a : RequestedScan) (holds : ExprEncoding → Bool) (before : StoreSeen) (s : StoreState) (r : ScanReport) (text : String Global)
    → holds ≡ is_default_kind
    → before ≡ fresh a → IsSameStore before (store_seen s) → IsScan holds a.filter a.projection before (store_seen s) (Ok r)
    → string_bytes text
    ≡ report_text (map value_text (report_view r).rows) (report_view r).skipped (read_columns (table_of_blocks s.zones s.blocks) s.reads) (length s.reads)
    → IsScanned a (Told text) (store_seen s)
reported_scan a holds before s r text kinds is same ended told =
    elim (subst (λ k. k) (λ i. IsScan (kinds i) a.filter a.projection (is i) (store_seen s) (Ok r)) ended) [
      | inl none ↦ absurd none
      | inr own ↦ record {
        filter = own.0;
        projection = own.1;
        spelled = own.2;
        ty = (report_view r).ty;
        typed = own.3.typed;
        ends = report_told a own.0 own.1 s (report_view r) (string_bytes text) (subst (λ b. IsSameStore b (store_seen s)) is same) own.3 told;
      }
    ]

-- the scan of a filter and a projection that breaks ends so
ends_broken : (cause : Cause) (a : RequestedScan) (f p : Tree) (s : StoreSeen) → (scan_breaks_by cause a f p ≡ true) × (s ≡ broken_store a f p)
    → EndsBy a f p (break_ending cause) s
ends_broken by_sum a f p s h = h
ends_broken by_cast a f p s h = h

broken_scan : (cause : Cause) (a : RequestedScan) (f p : Tree) (s : StoreSeen) → SpellBoth is_default_kind a.filter a.projection f p
    → IsSameStore (fresh a) s → IsScanBroken cause [] f p (fresh a) s → IsScanned a (break_ending cause) s
broken_scan cause a f p s spelled same broken = record {
  filter = f;
  projection = p;
  spelled = spelled;
  ty = broken.ty;
  typed = broken.typed;
  ends = ends_broken cause a f p s (broken_told cause a f p s same broken);
}

-- a scan of such a store that gives no report
unreported_fresh : (a : RequestedScan) (s : StoreSeen) (e : ScanError) → IsSameStore (fresh a) s
    → IsScan is_default_kind a.filter a.projection (fresh a) s (Err e) → IsUnreported (kind_of e) a e s
unreported_fresh a s e same (inl h) = by (kind_of e) h.1
  where
    by : (k : ErrorKind) → OnlyOfText k (AreRefused is_default_kind a.filter a.projection e) → IsUnreported k a e s
    by of_memory r = tt
    by of_text r = inl r
    by of_types r = absurd r
    by (of_break cause) r = absurd r
    by of_read r = r
unreported_fresh a s e same (inr (f, p, spelled, h)) = by (kind_of e) h
  where
    by : (k : ErrorKind) → IsScanStopped k [] f p (fresh a) s e → IsUnreported k a e s
    by of_memory h = tt
    by of_text h = absurd h
    by of_types h = inr (f, p, spelled, h.1)
    by (of_break cause) h = broken_scan cause a f p s spelled same h
    by of_read h = absurd (omega (arith, h.risen, same.quiet refl))

pub unreported_scan : (a : RequestedScan) (holds : ExprEncoding → Bool) (before s : StoreSeen) (e : ScanError) → holds ≡ is_default_kind → before ≡ fresh a
    → IsSameStore before s → IsScan holds a.filter a.projection before s (Err e) → IsUnreported (kind_of e) a e s
unreported_scan a holds before s e kinds is same ended =
    unreported_fresh a s e (subst (λ b. IsSameStore b s) is same) (subst (λ k. k) (λ i. IsScan (kinds i) a.filter a.projection (is i) s (Err e)) ended)

-- and that is never a read that failed
pub unfailing : (a : RequestedScan) (s : StoreSeen) (e : ScanError) → IsUnreported (kind_of e) a e s → e ≢ scans.StoreFault
unfailing a s e h is = subst (λ g. IsUnreported (kind_of g) a g s) is h

-- it ends as a break does
pub scanned_as : (a : RequestedScan) (e : ScanError) (ending : Ending) (s : StoreSeen) → IsUnreported (kind_of e) a e s → EndsAs (kind_of e) ending
    → IsScanned a ending s
scanned_as a e ending s h ends = by (kind_of e) h ends
  where
    by : (k : ErrorKind) → IsUnreported k a e s → EndsAs k ending → IsScanned a ending s
    by of_memory h ends = absurd ends
    by of_text h ends = absurd ends
    by of_types h ends = absurd ends
    by (of_break cause) h ends = subst (λ x. IsScanned a x s) (sym ends) h
    by of_read h ends = absurd ends

-- or its expressions are refused
pub unscanned_as : (a : RequestedScan) (e : ScanError) (r : Refusal) (s : StoreSeen) → IsUnreported (kind_of e) a e s → is_break e ≡ false
    → r ≡ scan_refusal e → IsUnscanned a r
unscanned_as a e r s h none same = subst (IsUnscanned a) (sym same) (by (kind_of e) h none)
  where
    by : (k : ErrorKind) → IsUnreported k a e s → kind_breaks k ≡ false → IsUnscanned a (kind_refusal k e)
    by of_memory h none = tt
    by of_text h none = h
    by of_types h none = h
    by (of_break cause) h none = absurd cc
    by of_read h none = absurd h

-- blocks that agree with zones are a table with them
pub table_of_agreeing : (z : Zones) (bs : List (List Column)) → (have_lengths z bs && have_types z bs) ≡ true → table_refusal z bs ≡ None
table_of_agreeing z bs h =
    rw (and_left (have_lengths z bs) (have_types z bs) h, and_right (have_lengths z bs) (have_types z bs) h) refl

-- what holds of a value that is answered
pub if_ok_then : {T E : Type 0} (P Q : T → Type 0) (r : Result T E) → ((x : T) → P x → Q x) → IfOk r P → IfOk r Q
if_ok_then P Q (Ok x) f h = f x h
if_ok_then P Q (Err e) f h = h

-- what holds of a refusal that is answered
pub if_err_then : {T E : Type 0} (P Q : E → Type 0) (r : Result T E) → ((e : E) → P e → Q e) → IfErr r P → IfErr r Q
if_err_then P Q (Ok x) f h = h
if_err_then P Q (Err e) f h = f e h

pub if_err : {T : Type 0} (P : Refusal → Type 0) (r : Refusal) (result : Result T Refusal) → IsErrAnd result (λ x. x ≡ r) → P r → IfErr result P
if_err P r (Ok x) h k = absurd h
if_err P r (Err x) h k = subst P (sym h) k

-- an input whose request is refused is answered by the refusal
pub refused_by : (input : Bytes) (e : RequestError) → RequestAnswers scan_view (request_of input) (Err e) → IsUnanswered input (request_refusal e)
refused_by input requests.NoMemory told = tt
refused_by input requests.InputTooLong told = told
refused_by input requests.BadJson told = told
refused_by input (requests.BadRequest place) told = told
refused_by input (requests.BadHex side) told = told
refused_by input (requests.BadTable refusal) told = told
