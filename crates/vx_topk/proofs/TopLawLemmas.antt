-- How the finding of first rows ends is told by the key's column, by typing, by the phases and by the faults.
use Rattle.std.proofs.Common.{◌≡◌, refl, ap, sym, ◌∙◌, ℕ, ◌<◌, ◌≤◌, Bool, true, false, cond, ◌||◌, Option, Some, None, List, [], ◌∷◌, Result, Ok, Err, subst, arith, inl, inr, ◌⊎◌}
use Rattle.std.specs.List.{list_any, list_all}
use Rattle.std.proofs.lemmas.Bool.{both_ways, or_cases, and_parts, and_from}
use Rattle.vx_dtype.specs.Types.{Bytes, Ty}
use Rattle.vx_dtype.specs.TypeRules.{is_plain, field_type}
use Rattle.vx_dtype.specs.Values.{Val}
use Rattle.vx_dtype.specs.Fits.{val_fits}
use Rattle.vx_column.specs.Columns.{rows_fit}
use Rattle.vx_expr.specs.Trees.{Tree}
use Rattle.vx_semantics.specs.Breaks.{Cause, by_sum, by_cast}
use Rattle.vx_semantics.specs.Tables.{Table, Zones, row_type}
use Rattle.vx_io.specs.Counts.{one_more}
use Rattle.vx_laws_scan.specs.Agreeing.{all_rows_fit}
use Rattle.vx_laws_topk.specs.TopRows.{TopAsk, top_rows_of}
use Rattle.vx_laws_topk.specs.TopPhases.{SlottedPhase, slotted_breaks, slotted_breaks_by, first_slotted_breaks_by, some_top_phase_breaks, first_top_breaks_by, top_phases}
use Rattle.vx_laws_topk.proofs.Finding.{top_is_of_all_rows}
use Rattle.vx_scan.specs.ErrorKinds.{ErrorKind, of_memory, of_text, of_types, of_break, of_read, kind_of}
use Rattle.vx_scan.specs.Stores.{StoreSeen, WhereTold, AgreesWith}
use Rattle.vx_scan.specs.Scanning.{scan_type}
use Rattle.vx_scan.specs.ScanLaws.{kind_refuses}
use Rattle.vx_scan.specs.declared.errors.ScanError.{ScanError}
use Rattle.vx_scan.specs.declared.errors.ScanError.TheVariants as scans
use Rattle.vx_topk.specs.TopEnds.{top_view, IsTypedTop, IsTopReport, IsTopBroken, top_ask, IsTopUnscanned, IsTopOf}
use Rattle.vx_topk.specs.TopEndLaws.{HonestTopsAreFirst, IsQuietTop, TopsReportUnlessNoMemory, UnbrokenTopsReport, TopsBreakUnlessNoMemory, TopsBreakWhereAPhaseBreaks}
use Rattle.vx_topk.specs.TopEndLaws.{type_refusal, key_refusal, top_refusal, TopsRefuseBy, RefusedTopsAreRefused, is_top_refusal, is_top_break, RefusalsAreTheFirst}
use Rattle.vx_topk.specs.TopEndLaws.{TopReportsExcludeErrors, TopRefusalsExcludeBreaks, TopRefusalsAreOne, BothTopBreaksAreOfOnePhase}
use Rattle.vx_topk.specs.declared.errors.TopError.{TopError}
use Rattle.vx_topk.specs.declared.errors.TopError.TheVariants as errors
use Rattle.vx_topk.specs.declared.reports.TopReport.{TopReport}

-- what holds of the table that is told
told-here : (held : Option Table) (table : Table) (P : Table → Type 0) → held ≡ Some table → WhereTold held P → P table
told-here held table P e h = subst (λ (o : Option Table). WhereTold o P) e h

-- ---- the rows over honest statistics

rows-fit : (t : Ty) (rows : List Val) → rows_fit t rows ≡ true → list_all (λ row. val_fits row t) rows ≡ true
rows-fit t [] h = refl
rows-fit t (row ∷ rows) h =
    let parts = and_parts (val_fits row t) (rows_fit t rows) h in
    and_from (val_fits row t) (list_all (λ (r : Val). val_fits r t) rows) parts.0 (rows-fit t rows parts.1)

blocks-fit : (t : Ty) (blocks : List (List Val)) → list_all (rows_fit t) blocks ≡ true → all_rows_fit t blocks ≡ true
blocks-fit t [] h = refl
blocks-fit t (rows ∷ blocks) h =
    let parts = and_parts (rows_fit t rows) (list_all (rows_fit t) blocks) h in
    and_from (list_all (λ (r : Val). val_fits r t) rows) (all_rows_fit t blocks) (rows-fit t rows parts.0) (blocks-fit t blocks parts.1)

pub honest_tops : HonestTopsAreFirst
honest_tops f p key descending count table before after report slotless told (t, h) =
    let ask = top_ask f p key descending count t in
    let zones = before.zones in
    let column : field_type key table.columns ≡ Some t = ap (field_type key) told.agrees.columns ∙ h.typed.column in
    let fit : all_rows_fit (row_type table.columns) table.blocks ≡ true =
    ap (λ fs. all_rows_fit (row_type fs) table.blocks) told.agrees.columns ∙ blocks-fit (row_type zones.columns) table.blocks told.agrees.fit in
    let rows : (top_view report).rows ≡ top_rows_of ask table zones =
    told-here before.held table (λ table. (top_view report).rows ≡ top_rows_of ask table zones) told.held h.rows in (
      t,
      (
        column,
        rows
            ∙ top_is_of_all_rows ask table zones (record { column = column; plain = h.typed.plain; filter_slots = slotless.filter; projection_slots = slotless.projection }) fit told.honest,
      ),
    )

-- ---- refusals

-- typed first rows are not refused
typed-none : (zones : Zones) (ask : TopAsk) (ty : Ty) → IsTypedTop zones ask ty → top_refusal zones ask.filter_expr ask.projection ask.key ≡ None
typed-none zones ask ty h = rw (h.column, h.plain, h.typed) refl

never-both : (o : Option TopError) (e : TopError) → o ≡ None → o ≡ Some e → ⊥
never-both None e h k = let no : ⊥ = cc in no
never-both (Some d) e h k = let no : ⊥ = cc in no

refused-first : (zones : Zones) (f p : Tree) (key : Bytes) (t : Ty) (e : ScanError) → field_type key zones.columns ≡ Some t → is_plain t ≡ true
    → scan_type (row_type zones.columns) [] f p ≡ Err e → top_refusal zones f p key ≡ Some (errors.Scan e)
refused-first zones f p key t e column plain h = rw (column, plain, h) refl

pub first_refusals : RefusalsAreTheFirst
first_refusals f p key descending count before after errors.NoMemory r h = let no : ⊥ = cc in absurd no
first_refusals f p key descending count before after errors.UnknownKey r h = ap (λ (o : Option Ty). key_refusal o (type_refusal (scan_type (row_type before.zones.columns) [] f p))) h.1
first_refusals f p key descending count before after errors.BadKey r (same, (t, column, plain)) = rw (column, plain) refl
first_refusals f p key descending count before after (errors.Scan e) r h = by-kind (kind_of e) r h
  where
    by-kind : (k : ErrorKind) → kind_refuses k ≡ true → IsTopUnscanned k f p key descending count before after e
        → top_refusal before.zones f p key ≡ Some (errors.Scan e)
    by-kind of_memory r h = absurd h
    by-kind of_text r h = absurd h
    by-kind of_types r ((t, column, plain), h) = refused-first before.zones f p key t e column plain h.1
    by-kind (of_break cause) r h = let no : ⊥ = cc in absurd no
    by-kind of_read r h = let no : ⊥ = cc in absurd no

-- each end is a report, want of memory, a refusal, or one of typed first rows: a break, or a read that failed
by-end : (f p : Tree) (key : Bytes) (descending : Bool) (count : ℕ) (before after : StoreSeen) (Gives : Result TopReport TopError → Type 0)
    → ((report : TopReport) (t : Ty) → IsTopReport (top_ask f p key descending count t) before after (top_view report) → Gives (Ok report))
    → Gives (Err errors.NoMemory)
    → ((e : TopError) → is_top_refusal e ≡ true → top_refusal before.zones f p key ≡ Some e → Gives (Err e))
    → ((t : Ty) → IsTopBroken by_sum (top_ask f p key descending count t) before after → Gives (Err (errors.Scan scans.Overflow)))
    → ((t : Ty) → IsTopBroken by_cast (top_ask f p key descending count t) before after → Gives (Err (errors.Scan scans.BadCast)))
    → ((t ty : Ty) → IsTypedTop before.zones (top_ask f p key descending count t) ty → one_more before.faults ≤ after.faults → Gives (Err (errors.Scan scans.StoreFault)))
    → (result : Result TopReport TopError) → IsTopOf f p key descending count before after result → Gives result
by-end f p key descending count before after Gives ok memory refused sum cast fault (Ok report) (t, h) = ok report t h
by-end f p key descending count before after Gives ok memory refused sum cast fault (Err errors.NoMemory) h = memory
by-end f p key descending count before after Gives ok memory refused sum cast fault (Err errors.UnknownKey) h =
    refused errors.UnknownKey refl (first_refusals f p key descending count before after errors.UnknownKey refl h)
by-end f p key descending count before after Gives ok memory refused sum cast fault (Err errors.BadKey) h =
    refused errors.BadKey refl (first_refusals f p key descending count before after errors.BadKey refl h)
by-end f p key descending count before after Gives ok memory refused sum cast fault (Err (errors.Scan scans.NoMemory)) h = absurd h
by-end f p key descending count before after Gives ok memory refused sum cast fault (Err (errors.Scan scans.Overflow)) (t, h) = sum t h
by-end f p key descending count before after Gives ok memory refused sum cast fault (Err (errors.Scan scans.BadCast)) (t, h) = cast t h
by-end f p key descending count before after Gives ok memory refused sum cast fault (Err (errors.Scan scans.StoreFault)) (t, h) = fault t h.ty h.typed h.risen
by-end f p key descending count before after Gives ok memory refused sum cast fault (Err (errors.Scan (scans.BadWire s))) h =
    refused (errors.Scan (scans.BadWire s)) refl (first_refusals f p key descending count before after (errors.Scan (scans.BadWire s)) refl h)
by-end f p key descending count before after Gives ok memory refused sum cast fault (Err (errors.Scan (scans.TooDeep s))) h =
    refused (errors.Scan (scans.TooDeep s)) refl (first_refusals f p key descending count before after (errors.Scan (scans.TooDeep s)) refl h)
by-end f p key descending count before after Gives ok memory refused sum cast fault (Err (errors.Scan (scans.TooManyNodes s))) h =
    refused (errors.Scan (scans.TooManyNodes s)) refl (first_refusals f p key descending count before after (errors.Scan (scans.TooManyNodes s)) refl h)
by-end f p key descending count before after Gives ok memory refused sum cast fault (Err (errors.Scan (scans.UnknownExpr s))) h =
    refused (errors.Scan (scans.UnknownExpr s)) refl (first_refusals f p key descending count before after (errors.Scan (scans.UnknownExpr s)) refl h)
by-end f p key descending count before after Gives ok memory refused sum cast fault (Err (errors.Scan (scans.BadMetadata s))) h =
    refused (errors.Scan (scans.BadMetadata s)) refl (first_refusals f p key descending count before after (errors.Scan (scans.BadMetadata s)) refl h)
by-end f p key descending count before after Gives ok memory refused sum cast fault (Err (errors.Scan (scans.WrongChildren s))) h =
    refused (errors.Scan (scans.WrongChildren s)) refl (first_refusals f p key descending count before after (errors.Scan (scans.WrongChildren s)) refl h)
by-end f p key descending count before after Gives ok memory refused sum cast fault (Err (errors.Scan (scans.NotStruct s))) h =
    refused (errors.Scan (scans.NotStruct s)) refl (first_refusals f p key descending count before after (errors.Scan (scans.NotStruct s)) refl h)
by-end f p key descending count before after Gives ok memory refused sum cast fault (Err (errors.Scan (scans.NullableSelect s))) h =
    refused (errors.Scan (scans.NullableSelect s)) refl (first_refusals f p key descending count before after (errors.Scan (scans.NullableSelect s)) refl h)
by-end f p key descending count before after Gives ok memory refused sum cast fault (Err (errors.Scan (scans.UnknownField s))) h =
    refused (errors.Scan (scans.UnknownField s)) refl (first_refusals f p key descending count before after (errors.Scan (scans.UnknownField s)) refl h)
by-end f p key descending count before after Gives ok memory refused sum cast fault (Err (errors.Scan (scans.DuplicateField s))) h =
    refused (errors.Scan (scans.DuplicateField s)) refl (first_refusals f p key descending count before after (errors.Scan (scans.DuplicateField s)) refl h)
by-end f p key descending count before after Gives ok memory refused sum cast fault (Err (errors.Scan (scans.TypeMismatch s))) h =
    refused (errors.Scan (scans.TypeMismatch s)) refl (first_refusals f p key descending count before after (errors.Scan (scans.TypeMismatch s)) refl h)
by-end f p key descending count before after Gives ok memory refused sum cast fault (Err (errors.Scan scans.FilterNotBool)) h =
    refused (errors.Scan scans.FilterNotBool) refl (first_refusals f p key descending count before after (errors.Scan scans.FilterNotBool) refl h)

pub refused_tops : RefusedTopsAreRefused
refused_tops f p key descending count before after e result first =
    by-end f p key descending count before after (TopsRefuseBy e)
    (λ report t h. absurd (typed t (top_view report).ty h.typed))
    (inr refl)
    (λ d r h. inl (one (top_refusal before.zones f p key) d h first))
    (λ t h. absurd (typed t h.ty h.typed))
    (λ t h. absurd (typed t h.ty h.typed))
    (λ t ty h risen. absurd (typed t ty h))
    result
  where
    typed : (t ty : Ty) → IsTypedTop before.zones (top_ask f p key descending count t) ty → ⊥
    typed t ty h = never-both (top_refusal before.zones f p key) e (typed-none before.zones (top_ask f p key descending count t) ty h) first

    one : (o : Option TopError) (d : TopError) → o ≡ Some d → o ≡ Some e → d ≡ e
    one o d h k = let same : Some d ≡ Some e = sym h ∙ k in cc

-- ---- phases that break

breaks-somewhere : (c : Cause) (t : Ty) (phases : List SlottedPhase) → first_slotted_breaks_by c t phases ≡ true → list_any (slotted_breaks t) phases ≡ true
breaks-somewhere c t [] h = let no : ⊥ = cc in absurd no
breaks-somewhere c t (phase ∷ phases) h = by-test (slotted_breaks t phase) h (breaks-somewhere c t phases)
  where
    by-test : (b : Bool) → cond b (slotted_breaks_by c t phase) (first_slotted_breaks_by c t phases) ≡ true
        → (first_slotted_breaks_by c t phases ≡ true → list_any (slotted_breaks t) phases ≡ true) → (b || list_any (slotted_breaks t) phases) ≡ true
    by-test true k r = refl
    by-test false k r = r k

-- two keys of one store are of one type
one-type : (o : Option Ty) (t u : Ty) → o ≡ Some t → o ≡ Some u → u ≡ t
one-type o t u h k = let same : Some u ≡ Some t = sym k ∙ h in cc

module _ (f p : Tree) (key : Bytes) (descending : Bool) (count : ℕ) (table : Table) (before : StoreSeen) (held : before.held ≡ Some table) where
  abbrev asked : Ty → TopAsk
  asked t = top_ask f p key descending count t

  broke-first : (c : Cause) (t : Ty) (after : StoreSeen) → IsTopBroken c (top_ask f p key descending count t) before after
      → first_top_breaks_by c (top_ask f p key descending count t) table before.zones ≡ true
  broke-first c t after h =
      told-here before.held table (λ table. first_top_breaks_by c (top_ask f p key descending count t) table before.zones ≡ true) held h.first_breaks

  broke-some : (c : Cause) (t : Ty) (after : StoreSeen) → IsTopBroken c (top_ask f p key descending count t) before after
      → some_top_phase_breaks (top_ask f p key descending count t) table before.zones ≡ true
  broke-some c t after h =
      breaks-somewhere c (row_type table.columns) (top_phases (top_ask f p key descending count t) table before.zones) (broke-first c t after h)

  reported-none : (t : Ty) (after : StoreSeen) (report : TopReport) → IsTopReport (top_ask f p key descending count t) before after (top_view report)
      → some_top_phase_breaks (top_ask f p key descending count t) table before.zones ≡ false
  reported-none t after report h =
      told-here before.held table (λ table. some_top_phase_breaks (top_ask f p key descending count t) table before.zones ≡ false) held h.unbroken

  -- a report and a break exclude one another
  never-reported : (c : Cause) (t u : Ty) (after other : StoreSeen) (report : TopReport) → IsTopReport (top_ask f p key descending count t) before after (top_view report)
      → IsTopBroken c (top_ask f p key descending count u) before other → ⊥
  never-reported c t u after other report h k =
      let same : u ≡ t = one-type (field_type key before.zones.columns) t u h.typed.column k.typed.column in
      both_ways (some_top_phase_breaks (top_ask f p key descending count t) table before.zones) (reported-none t after report h)
      (subst (λ (x : Ty). some_top_phase_breaks (top_ask f p key descending count x) table before.zones ≡ true) same (broke-some c u other k))

pub unbroken_tops : UnbrokenTopsReport
unbroken_tops f p key descending count t table before after result quiet none =
    by-end f p key descending count before after TopsReportUnlessNoMemory
    (λ report u h. tt)
    tt
    (λ e r h. absurd (never-both (top_refusal before.zones f p key) e (typed-none before.zones (top_ask f p key descending count t) quiet.ty quiet.typed) h))
    (λ u h. absurd (broken by_sum u h))
    (λ u h. absurd (broken by_cast u h))
    (λ u ty h risen. absurd (below quiet.no_fault risen))
    result
  where
    below : after.faults < one_more before.faults → one_more before.faults ≤ after.faults → ⊥
    below h k = omega (arith, h, k)

    broken : (c : Cause) (u : Ty) → IsTopBroken c (top_ask f p key descending count u) before after → ⊥
    broken c u h =
        let same : u ≡ t = one-type (field_type key before.zones.columns) t u quiet.typed.column h.typed.column in
        both_ways (some_top_phase_breaks (top_ask f p key descending count t) table before.zones) none
        (subst (λ (x : Ty). some_top_phase_breaks (top_ask f p key descending count x) table before.zones ≡ true) same
        (broke-some f p key descending count table before quiet.held c u after h))

pub breaking_tops : TopsBreakWhereAPhaseBreaks
breaking_tops f p key descending count t table before after result quiet some =
    by-end f p key descending count before after TopsBreakUnlessNoMemory
    (λ report u h. absurd (reported report u h))
    tt
    (λ e r h. absurd (never-both (top_refusal before.zones f p key) e (typed-none before.zones (top_ask f p key descending count t) quiet.ty quiet.typed) h))
    (λ u h. tt)
    (λ u h. tt)
    (λ u ty h risen. absurd (below quiet.no_fault risen))
    result
  where
    below : after.faults < one_more before.faults → one_more before.faults ≤ after.faults → ⊥
    below h k = omega (arith, h, k)

    reported : (report : TopReport) (u : Ty) → IsTopReport (top_ask f p key descending count u) before after (top_view report) → ⊥
    reported report u h =
        let same : u ≡ t = one-type (field_type key before.zones.columns) t u quiet.typed.column h.typed.column in
        both_ways (some_top_phase_breaks (top_ask f p key descending count t) table before.zones)
        (subst (λ (x : Ty). some_top_phase_breaks (top_ask f p key descending count x) table before.zones ≡ false) same
        (reported-none f p key descending count table before quiet.held u after report h)) some

-- ---- ends exclude one another

-- a break is one by a sum or by a cast
by-break : (f p : Tree) (key : Bytes) (descending : Bool) (count : ℕ) (before after : StoreSeen) (e : TopError) (Gives : Type 0) → is_top_break e ≡ true
    → ((c : Cause) (t : Ty) → IsTopBroken c (top_ask f p key descending count t) before after → Gives) → IsTopOf f p key descending count before after (Err e) → Gives
by-break f p key descending count before after (errors.Scan scans.Overflow) Gives b give (t, h) = give by_sum t h
by-break f p key descending count before after (errors.Scan scans.BadCast) Gives b give (t, h) = give by_cast t h
by-break f p key descending count before after _ Gives b give h = let no : ⊥ = cc in absurd no

pub reports_exclude : TopReportsExcludeErrors
reports_exclude f p key descending count table before after other report e held kinds (t, h) k = by-kind (or_cases (is_top_refusal e) (is_top_break e) kinds)
  where
    by-kind : ((is_top_refusal e ≡ true) ⊎ (is_top_break e ≡ true)) → ⊥
    by-kind (inl r) =
        never-both (top_refusal before.zones f p key) e (typed-none before.zones (top_ask f p key descending count t) (top_view report).ty h.typed)
        (first_refusals f p key descending count before other e r k)
    by-kind (inr b) =
        by-break f p key descending count before other e ⊥ b (λ c u broke. never-reported f p key descending count table before held c t u after other report h broke) k

pub refusals_exclude : TopRefusalsExcludeBreaks
refusals_exclude f p key descending count before after other d e r b h k =
    by-break f p key descending count before other e ⊥ b
    (λ c t broke. never-both (top_refusal before.zones f p key) d (typed-none before.zones (top_ask f p key descending count t) broke.ty broke.typed)
    (first_refusals f p key descending count before after d r h)) k

pub refusals_are_one : TopRefusalsAreOne
refusals_are_one f p key descending count before after other d e r s h k =
    let same : Some d ≡ Some e = sym (first_refusals f p key descending count before after d r h) ∙ first_refusals f p key descending count before other e s k in cc

pub breaks_are_of_one_phase : BothTopBreaksAreOfOnePhase
breaks_are_of_one_phase f p key descending count table before after other held (t, h) (u, k) =
    let same : u ≡ t = one-type (field_type key before.zones.columns) t u h.typed.column k.typed.column in (
      t,
      (
        broke-first f p key descending count table before held by_sum t after h,
        subst (λ (x : Ty). first_top_breaks_by by_cast (top_ask f p key descending count x) table before.zones ≡ true) same
            (broke-first f p key descending count table before held by_cast u other k),
      ),
    )
