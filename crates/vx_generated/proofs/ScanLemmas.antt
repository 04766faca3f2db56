-- How the scan of the generated table ends.
use Rattle.std.proofs.Common.{◌≡◌, ◌∙◌, sym, ap, refl, subst, ℕ, ◌^◌, ◌<◌, Bool, true, [], length, List, Some, None, Result, Ok, IfOk, arith}
use Rattle.std.proofs.lemmas.List.{length-map}
use Rattle.vx_dtype.specs.declared.PType.TheVariants.{I64}
use Rattle.vx_dtype.specs.declared.Nullability.TheVariants.{NonNullable}
use Rattle.vx_dtype.specs.Types.{Bytes, Ty, int_ty}
use Rattle.vx_dtype.specs.TypeViews.{type_view}
use Rattle.vx_dtype.specs.Values.{Raw, Val, valued}
use Rattle.vx_semantics.specs.Typing.{Refusal, type_mismatch, unless, and_then, typed_of}
use Rattle.vx_semantics.specs.Slots.{slots_fit}
use Rattle.vx_semantics.specs.Tables.{Table, Zones, row_type}
use Rattle.vx_column.specs.Columns.{Column, raws_fit, raw_rows}
use Rattle.vx_expr.specs.Trees.{Tree}
use Rattle.vx_wire.specs.Encodings.{is_default_kind}
use Rattle.vx_wire.specs.Forms.{wire_text}
use Rattle.vx_wire.specs.declared.encodings.ExprEncoding.{ExprEncoding}
use Rattle.vx_scan.specs.Reports.{report_view}
use Rattle.vx_scan.specs.Scanning.{on_side, after_filter, scan_type, IsReport, IsScan}
use Rattle.vx_scan.specs.ScanLaws.{IsQuietScan, ReportsUnlessNoMemory}
use Rattle.vx_scan.specs.StoreAnswers.{new_store}
use Rattle.vx_scan.specs.StoreViews.{StoreState, store_seen}
use Rattle.vx_scan.specs.Stores.{StoreSeen, IsSameStore}
use Rattle.vx_scan.specs.declared.errors.ScanError.{ScanError}
use Rattle.vx_scan.specs.declared.errors.Side.TheVariants.{Filter, Projection}
use Rattle.vx_scan.specs.declared.reports.ScanReport.{ScanReport}
use Rattle.vx_scan.proofs.LawLemmas.{faultless_so, unbroken_texts_so}
use Rattle.vx_scan.proofs.TextLemmas.{texts_so}
use Rattle.vx_laws_generated.specs.GeneratedTable.{generated_columns, generated_table, generated_zones, generated_filter, generated_projection}
use Rattle.vx_laws_generated.specs.GeneratedLine.{answered_rows, skipped_in, sum_of, summary_line, gen_line}
use Rattle.vx_laws_generated.proofs.Typed.{generated_filter_is_typed, generated_projection_is_typed}
use Rattle.vx_laws_generated.proofs.Quiet.{no_generated_phase_breaks}
use Rattle.vx_generated.specs.GeneratedBlocks.{generated_blocks, generated_store}
use Rattle.vx_generated.proofs.SpelledLemmas.{both-spelled}
use Rattle.vx_generated.proofs.TableLemmas.{blocks-are_table}

-- the store before its first read
abbrev pub fresh : ℕ → StoreSeen
fresh rows =
    record {
      zones = generated_zones rows;
      held = Some (generated_table rows);
      log = [];
      faults = 0;
      failed = None;
      faultless = true;
    }

-- the type of the answered rows
abbrev pub id_ty : Ty
id_ty = int_ty I64 NonNullable

typed : (rows : ℕ) → rows < 2 ^ 32 → scan_type (row_type generated_columns) [] (generated_filter rows) generated_projection ≡ Ok id_ty
unfolding slots_fit
typed rows h =
    let passed = λ (r : Result Ty Refusal). and_then r (λ (u : Ty). unless true type_mismatch (Ok u)) in
    ap
    (λ (r : Result Ty Refusal).
    after_filter (on_side Filter (passed r)) (on_side Projection (passed (typed_of (row_type generated_columns) generated_projection))))
    (generated_filter_is_typed rows h)
    ∙ ap (λ (r : Result Ty Refusal). on_side Projection (passed r)) generated_projection_is_typed

quiet : (rows : ℕ) (after : StoreSeen) → rows < 2 ^ 32 → IsSameStore (fresh rows) after
    → IsQuietScan [] (generated_filter rows) generated_projection (generated_table rows) (fresh rows) after
quiet rows after h same = record {
  held = refl;
  ty = id_ty;
  typed = typed rows h;
  no_fault = faultless_so (fresh rows) after same refl (omega arith);
}

-- a scan of the bytes of both expressions over such a store, whatever is known of them
pub record IsGenerated (rows : ℕ) (holds : ExprEncoding → Bool) (filter_text projection_text : Bytes) (before after : StoreSeen) : Type 0 where
  pub few : rows < 2 ^ 32
  pub kinds : holds ≡ is_default_kind
  pub filter : filter_text ≡ wire_text (generated_filter rows)
  pub projection : projection_text ≡ wire_text generated_projection
  pub new : before ≡ fresh rows
  pub same : IsSameStore before after

ended-so : (rows : ℕ) (holds : ExprEncoding → Bool) (ft pt : Bytes) (before after : StoreSeen) (result : Result ScanReport ScanError)
    → IsGenerated rows holds ft pt before after → IsScan holds ft pt before after result
    → IsScan is_default_kind (wire_text (generated_filter rows)) (wire_text generated_projection) (fresh rows) after result
ended-so rows holds ft pt before after result is ended =
    subst (λ k. k) (λ i. IsScan (is.kinds i) (is.filter i) (is.projection i) (is.new i) after result) ended

-- it gives a report, or there was no memory
pub reports : (rows : ℕ) (holds : ExprEncoding → Bool) (ft pt : Bytes) (before after : StoreSeen) (result : Result ScanReport ScanError)
    → IsGenerated rows holds ft pt before after → IsScan holds ft pt before after result → ReportsUnlessNoMemory result
reports rows holds ft pt before after result is ended =
    unbroken_texts_so is_default_kind (wire_text (generated_filter rows)) (wire_text generated_projection) (generated_filter rows) generated_projection
    (generated_table rows) (fresh rows) after result (both-spelled rows is.few)
    (quiet rows after is.few (subst (λ b. IsSameStore b after) is.new is.same)) (no_generated_phase_breaks rows)
    (ended-so rows holds ft pt before after result is ended)

-- what the report tells, and what store is left
pub record IsTold (rows : ℕ) (after : StoreSeen) (report : ScanReport) : Type 0 where
  pub ty : type_view report.dtype ≡ id_ty
  pub answered : raw_rows id_ty report.rows ≡ answered_rows rows
  pub skipped : report.skipped ≡ skipped_in rows
  pub store : after ≡ generated_store rows

pub told : (rows : ℕ) (holds : ExprEncoding → Bool) (ft pt : Bytes) (before after : StoreSeen) (report : ScanReport)
    → IsGenerated rows holds ft pt before after → IsScan holds ft pt before after (Ok report) → IsTold rows after report
told rows holds ft pt before after report is ended =
    let f = generated_filter rows in
    let p = generated_projection in
    let own : IsReport [] f p (fresh rows) after (report_view report) =
    texts_so is_default_kind (wire_text f) (wire_text p) f p (fresh rows) after (Ok report) (both-spelled rows is.few)
    (ended-so rows holds ft pt before after (Ok report) is ended) in
    let same : IsSameStore (fresh rows) after = subst (λ b. IsSameStore b after) is.new is.same in
    let both = sym own.typed ∙ typed rows is.few in
    let ty : type_view report.dtype ≡ id_ty = cc in
    record {
      ty = ty;
      answered = ap (λ (t : Ty). raw_rows t report.rows) (sym ty) ∙ own.rows;
      skipped = own.skipped;
      store = λ i. record {
        zones = same.zones i;
        held = same.held i;
        log = (own.reads.grown ∙ own.reads.told) i;
        faults = same.quiet refl i;
        failed = own.unfailed i;
        faultless = same.faultless i;
      };
    }

-- values of the rows' type
pub fit-told : (t : Ty) (xs : List Raw) → t ≡ id_ty → raws_fit t xs ≡ true → raws_fit id_ty xs ≡ true
fit-told t xs e h = subst (λ (u : Ty). raws_fit u xs ≡ true) e h

-- the line
pub line-told : (rows blocks : ℕ) (after : StoreSeen) (report : ScanReport) → IsTold rows after report → blocks ≡ length (generated_zones rows).lengths
    → summary_line blocks (length report.skipped) (length report.rows) (sum_of (raw_rows id_ty report.rows)) ≡ gen_line rows
line-told rows blocks after report told e =
    ap (λ (n : ℕ). summary_line n (length report.skipped) (length report.rows) (sum_of (raw_rows id_ty report.rows))) e
    ∙ ap (λ (ks : List ℕ). summary_line (length (generated_zones rows).lengths) (length ks) (length report.rows) (sum_of (raw_rows id_ty report.rows))) told.skipped
    ∙ ap (λ (n : ℕ). summary_line (length (generated_zones rows).lengths) (length (skipped_in rows)) n (sum_of (raw_rows id_ty report.rows)))
    (sym (length-map report.rows (λ (x : Raw). valued x id_ty)))
    ∙ ap (λ (xs : List Val). summary_line (length (generated_zones rows).lengths) (length (skipped_in rows)) (length xs) (sum_of xs)) told.answered

-- ---- from what the code has

-- the store before its first read, by its table
abbrev fresh_with : ℕ → Table → StoreSeen
fresh_with rows t =
    record {
      zones = generated_zones rows;
      held = Some t;
      log = [];
      faults = 0;
      failed = None;
      faultless = true;
    }

new-fresh : (rows : ℕ) (z : Zones) (bs : List (List Column)) (store : StoreState) → store ≡ new_store z bs [] → z ≡ generated_zones rows → bs ≡ generated_blocks rows
    → store_seen store ≡ fresh rows
new-fresh rows z bs store e g h = ap store_seen e ∙ (λ i. store_seen (new_store (g i) (h i) [])) ∙ ap (fresh_with rows) (blocks-are_table rows)

-- what was made: the store, the bytes and the expressions that these are of
pub record IsMade (rows : ℕ) (z : Zones) (bs : List (List Column)) (store : StoreState) (f p : Tree) (filter_bytes projection_bytes : Bytes) : Type 0 where
  pub zones : z ≡ generated_zones rows
  pub blocks : bs ≡ generated_blocks rows
  pub store_new : store ≡ new_store z bs []
  pub filter : f ≡ generated_filter rows
  pub projection : p ≡ generated_projection
  pub filter_written : filter_bytes ≡ wire_text f
  pub projection_written : projection_bytes ≡ wire_text p

pub is-generated : (rows : ℕ) (z : Zones) (bs : List (List Column)) (store : StoreState) (f p : Tree) (filter_bytes projection_bytes ft pt : Bytes)
    (holds : ExprEncoding → Bool) (after : StoreSeen)
    → rows < 2 ^ 32 → ((e : ExprEncoding) → holds e ≡ is_default_kind e) → IsMade rows z bs store f p filter_bytes projection_bytes
    → ft ≡ filter_bytes → pt ≡ projection_bytes → IsSameStore (store_seen store) after
    → IsGenerated rows holds ft pt (store_seen store) after
is-generated rows z bs store f p fb pb ft pt holds after few kinds made filter projection same = record {
  few = few;
  kinds = λ j e. (kinds e) j;
  filter = filter ∙ made.filter_written ∙ ap wire_text made.filter;
  projection = projection ∙ made.projection_written ∙ ap wire_text made.projection;
  new = new-fresh rows z bs store made.store_new made.zones made.blocks;
  same = same;
}

-- the report that was told
pub told-so : (rows : ℕ) (holds : ExprEncoding → Bool) (ft pt : Bytes) (before after : StoreSeen) (answer : Result ScanReport ScanError) (report : ScanReport)
    → IsGenerated rows holds ft pt before after → IsScan holds ft pt before after answer → answer ≡ Ok report → IsTold rows after report
told-so rows holds ft pt before after answer report is ended e =
    told rows holds ft pt before after report is (subst (IsScan holds ft pt before after) e ended)

pub rows-fit : (rows : ℕ) (after : StoreSeen) (answer : Result ScanReport ScanError) (report : ScanReport) → IsTold rows after report → answer ≡ Ok report
    → IfOk answer (λ r. raws_fit (type_view r.dtype) r.rows ≡ true) → raws_fit id_ty report.rows ≡ true
rows-fit rows after answer report is e fit =
    fit-told (type_view report.dtype) report.rows is.ty (subst (λ (a : Result ScanReport ScanError). IfOk a (λ r. raws_fit (type_view r.dtype) r.rows ≡ true)) e fit)
