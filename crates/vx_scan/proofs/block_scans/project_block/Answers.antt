use Rattle.std.proofs.Common.{◌≡◌, ◌∙◌, sym, ap, true, nat_eq, List, map, length, Ok, Err, subst}
use Rattle.std.specs.List.{list_all}
use Rattle.vx_dtype.specs.TypeViews.{type_view}
use Rattle.vx_column.specs.Columns.{Column, seen_rows}
use Rattle.vx_semantics.specs.Scans.{reads_in, further_columns, matching_rows}
use Rattle.vx_semantics.specs.Tables.{row_type}
use Rattle.vx_scan.specs.Stores.{IsColumnOf}
use Rattle.vx_scan.specs.Steps.{AreColumnsOf, kept_column, RunsPart}
use Rattle.vx_scan.specs.declared.errors.ScanError.TheVariants.{NoMemory}
use Rattle.vx_scan.proofs.ColumnLemmas.{zipped_length}
use Rattle.vx_scan.proofs.FilterLemmas.{asked_there, projection_reads, projection_columns, kept_of_type, can_be_kept, columns_long}
use Rattle.vx_scan.proofs.GivenLemmas.{block_told, gives_kept, rows_added}
use Rattle.vx_scan.proofs.PartLemmas.{part_unread, part_cut, part_ran}
use Rattle.vx_scan.proofs.ReadLemmas.{the_error}
use Rattle.vx_scan.proofs.block_scans.project_block.Goals as goal

pub read_columns-requires-clause-names : goal.read_columns-requires-clause-names
read_columns-requires-clause-names g c =
    asked_there (g.S.ColumnStore.seen c.args.store.now).zones.columns c.args.slots.now c.requires.prepared.1 c.args.scan.now.projection c.as_slice.result.now
    (c.as_slice.ensures ∙ c.columns.ensures) c.requires.prepared.2.projection

pub read_columns-requires-clause-lengths : goal.read_columns-requires-clause-lengths
read_columns-requires-clause-lengths g c =
    let first = g.S.ColumnStore.seen c.args.store.now in
    ap length (c.columns-2.ensures)
    ∙ zipped_length (IsColumnOf first c.args.block) c.args.scan.now.filter.columns c.args.filtered.now.columns.items c.requires.prepared.3.columns
    ∙ ap length (sym c.as_slice-2.ensures.value)

pub kept_columns-requires-clause-lengths : goal.kept_columns-requires-clause-lengths
kept_columns-requires-clause-lengths g c =
    let first = g.S.ColumnStore.seen c.args.store.now in
    let scan = c.args.scan.now in
    let filtered = c.args.filtered.now in
    let block = c.args.block in
    let names : c.as_slice.result.now ≡ scan.projection.columns = c.as_slice.ensures ∙ c.columns.ensures in
    let others : c.columns-2.result.now ≡ scan.filter.columns = c.columns-2.ensures in
    let known : AreColumnsOf first block scan.filter.columns c.as_slice-2.result.now = subst (λ (xs : List Column). AreColumnsOf first block scan.filter.columns xs) (sym c.as_slice-2.ensures.value) c.requires.prepared.3.columns in
    let own : AreColumnsOf first block scan.projection.columns c.in_ok-columns.columns.items =
    projection_columns first block c.as_slice.result.now scan.projection.columns c.columns-2.result.now scan.filter.columns c.as_slice-2.result.now c.in_ok-columns.columns.items names others known c.in_ok-columns.ensures.columns in
    let long = columns_long first block (length filtered.keep.rows) scan.projection.columns c.in_ok-columns.columns.items c.requires.prepared.3.len own in
    subst (λ (xs : List Column). list_all (λ x. nat_eq (length x.rows) (length filtered.keep.rows)) xs ≡ true) (sym c.as_slice-3.ensures.value) long

pub evaluated-requires : goal.evaluated-requires
evaluated-requires g c =
    let first = g.S.ColumnStore.seen c.args.store.now in
    let scan = c.args.scan.now in
    let filtered = c.args.filtered.now in
    let block = c.args.block in
    let names : c.as_slice.result.now ≡ scan.projection.columns = c.as_slice.ensures ∙ c.columns.ensures in
    let others : c.columns-2.result.now ≡ scan.filter.columns = c.columns-2.ensures in
    let known : AreColumnsOf first block scan.filter.columns c.as_slice-2.result.now = subst (λ (xs : List Column). AreColumnsOf first block scan.filter.columns xs) (sym c.as_slice-2.ensures.value) c.requires.prepared.3.columns in
    let own : AreColumnsOf first block scan.projection.columns c.in_ok-columns.columns.items =
    projection_columns first block c.as_slice.result.now scan.projection.columns c.columns-2.result.now scan.filter.columns c.as_slice-2.result.now c.in_ok-columns.columns.items names others known c.in_ok-columns.ensures.columns in
    let kept : c.as_slice-4.result.now ≡ map (kept_column filtered.keep.rows) c.in_ok-columns.columns.items =
    c.as_slice-4.ensures.value ∙ c.in_ok-kept.ensures ∙ ap (map (kept_column filtered.keep.rows)) c.as_slice-3.ensures.value in
    can_be_kept first c.args.slots.now c.requires.prepared.0 c.requires.prepared.1 scan block filtered c.in_ok-columns.columns.items c.as_slice-4.result.now
    c.requires.prepared.2 c.requires.prepared.3 own kept

pub returns-in_err-columns-clause-runs : goal.returns-in_err-columns-clause-runs
returns-in_err-columns-clause-runs g c = λ f p h k.
    let first = g.S.ColumnStore.seen c.args.store.now in
    let last = g.S.ColumnStore.seen c.read_columns.new.store in
    let slots = c.args.slots.now in
    let scan = c.args.scan.now in
    let filtered = c.args.filtered.now in
    let block = c.args.block in
    let names : c.as_slice.result.now ≡ scan.projection.columns = c.as_slice.ensures ∙ c.columns.ensures in
    let others : c.columns-2.result.now ≡ scan.filter.columns = c.columns-2.ensures in
    let told = block_told first block (length filtered.keep.rows) c.requires.agrees k.len in
    let err = c.in_err-columns.field-0.0 in
    let same = the_error c.from_residual.result err c.from_residual.ensures.0 c.from_residual.ensures.1 in
    let reads = projection_reads first last slots f p scan block c.as_slice.result.now c.columns-2.result.now (Err err) h names others c.in_err-columns.ensures.reads in
    subst (λ r. RunsPart slots p (reads_in block (further_columns (row_type first.zones.columns) f p)) block (matching_rows (row_type first.zones.columns) slots f) first last r) (sym same)
    (part_unread slots p (reads_in block (further_columns (row_type first.zones.columns) f p)) block (length filtered.keep.rows) (matching_rows (row_type first.zones.columns) slots f) first last err told reads)

pub returns-in_err-kept-clause-runs : goal.returns-in_err-kept-clause-runs
returns-in_err-kept-clause-runs g c = λ f p h k.
    let first = g.S.ColumnStore.seen c.args.store.now in
    let last = g.S.ColumnStore.seen c.read_columns.new.store in
    let slots = c.args.slots.now in
    let scan = c.args.scan.now in
    let filtered = c.args.filtered.now in
    let block = c.args.block in
    let names : c.as_slice.result.now ≡ scan.projection.columns = c.as_slice.ensures ∙ c.columns.ensures in
    let others : c.columns-2.result.now ≡ scan.filter.columns = c.columns-2.ensures in
    let told = block_told first block (length filtered.keep.rows) c.requires.agrees k.len in
    let same = the_error c.from_residual-in_err-kept.result NoMemory c.from_residual-in_err-kept.ensures.0 c.from_residual-in_err-kept.ensures.1 in
    let reads = projection_reads first last slots f p scan block c.as_slice.result.now c.columns-2.result.now (Ok tt) h names others c.in_ok-columns.ensures.reads in
    subst (λ r. RunsPart slots p (reads_in block (further_columns (row_type first.zones.columns) f p)) block (matching_rows (row_type first.zones.columns) slots f) first last r) (sym same) (part_cut slots p (reads_in block (further_columns (row_type first.zones.columns) f p)) block (length filtered.keep.rows) (matching_rows (row_type first.zones.columns) slots f) first last told reads)

pub returns-in_err-push_values-clause-runs : goal.returns-in_err-push_values-clause-runs
returns-in_err-push_values-clause-runs g c = λ f p h k.
    let first = g.S.ColumnStore.seen c.args.store.now in
    let last = g.S.ColumnStore.seen c.read_columns.new.store in
    let slots = c.args.slots.now in
    let scan = c.args.scan.now in
    let filtered = c.args.filtered.now in
    let block = c.args.block in
    let names : c.as_slice.result.now ≡ scan.projection.columns = c.as_slice.ensures ∙ c.columns.ensures in
    let others : c.columns-2.result.now ≡ scan.filter.columns = c.columns-2.ensures in
    let told = block_told first block (length filtered.keep.rows) c.requires.agrees k.len in
    let same = the_error c.from_residual-in_err-push_values.result NoMemory c.from_residual-in_err-push_values.ensures.0 c.from_residual-in_err-push_values.ensures.1 in
    let reads = projection_reads first last slots f p scan block c.as_slice.result.now c.columns-2.result.now (Ok tt) h names others c.in_ok-columns.ensures.reads in
    subst (λ r. RunsPart slots p (reads_in block (further_columns (row_type first.zones.columns) f p)) block (matching_rows (row_type first.zones.columns) slots f) first last r) (sym same) (part_cut slots p (reads_in block (further_columns (row_type first.zones.columns) f p)) block (length filtered.keep.rows) (matching_rows (row_type first.zones.columns) slots f) first last told reads)

pub returns-in_err-values-clause-runs : goal.returns-in_err-values-clause-runs
returns-in_err-values-clause-runs g c = λ f p h k.
    let first = g.S.ColumnStore.seen c.args.store.now in
    let last = g.S.ColumnStore.seen c.read_columns.new.store in
    let slots = c.args.slots.now in
    let scan = c.args.scan.now in
    let filtered = c.args.filtered.now in
    let block = c.args.block in
    let names : c.as_slice.result.now ≡ scan.projection.columns = c.as_slice.ensures ∙ c.columns.ensures in
    let others : c.columns-2.result.now ≡ scan.filter.columns = c.columns-2.ensures in
    let told = block_told first block (length filtered.keep.rows) c.requires.agrees k.len in
    let err = c.in_err-values.field-0.0 in
    let same = the_error c.from_residual-in_err-values.result err c.from_residual-in_err-values.ensures.0 c.from_residual-in_err-values.ensures.1 in
    let reads = projection_reads first last slots f p scan block c.as_slice.result.now c.columns-2.result.now (Ok tt) h names others c.in_ok-columns.ensures.reads in
    let known : AreColumnsOf first block scan.filter.columns c.as_slice-2.result.now = subst (λ (xs : List Column). AreColumnsOf first block scan.filter.columns xs) (sym c.as_slice-2.ensures.value) k.columns in
    let own : AreColumnsOf first block scan.projection.columns c.in_ok-columns.columns.items =
    projection_columns first block c.as_slice.result.now scan.projection.columns c.columns-2.result.now scan.filter.columns c.as_slice-2.result.now c.in_ok-columns.columns.items names others known c.in_ok-columns.ensures.columns in
    let kept : c.as_slice-4.result.now ≡ map (kept_column filtered.keep.rows) c.in_ok-columns.columns.items =
    c.as_slice-4.ensures.value ∙ c.in_ok-kept.ensures ∙ ap (map (kept_column filtered.keep.rows)) c.as_slice-3.ensures.value in
    subst (λ r. RunsPart slots p (reads_in block (further_columns (row_type first.zones.columns) f p)) block (matching_rows (row_type first.zones.columns) slots f) first last r) (sym same)
    (part_ran slots p (reads_in block (further_columns (row_type first.zones.columns) f p)) block (length filtered.keep.rows) (matching_rows (row_type first.zones.columns) slots f) first last (Err err) told reads
    (c.in_err-values.ensures.causes first.zones.columns p h.projection h.distinct (kept_of_type first slots f scan.projection.columns scan.filter.columns block filtered c.in_ok-columns.columns.items c.as_slice-4.result.now k own kept))
    (gives_kept first slots f p scan.projection scan.filter.columns block filtered c.in_ok-columns.columns.items c.as_slice-4.result.now (Err err) c.requires.agrees k own h.projection h.distinct kept c.in_err-values.ensures.told))

pub returns-clause-runs : goal.returns-clause-runs
returns-clause-runs g c = λ f p h k.
    let first = g.S.ColumnStore.seen c.args.store.now in
    let last = g.S.ColumnStore.seen c.read_columns.new.store in
    let slots = c.args.slots.now in
    let scan = c.args.scan.now in
    let filtered = c.args.filtered.now in
    let block = c.args.block in
    let names : c.as_slice.result.now ≡ scan.projection.columns = c.as_slice.ensures ∙ c.columns.ensures in
    let others : c.columns-2.result.now ≡ scan.filter.columns = c.columns-2.ensures in
    let told = block_told first block (length filtered.keep.rows) c.requires.agrees k.len in
    let reads = projection_reads first last slots f p scan block c.as_slice.result.now c.columns-2.result.now (Ok tt) h names others c.in_ok-columns.ensures.reads in
    let known : AreColumnsOf first block scan.filter.columns c.as_slice-2.result.now = subst (λ (xs : List Column). AreColumnsOf first block scan.filter.columns xs) (sym c.as_slice-2.ensures.value) k.columns in
    let own : AreColumnsOf first block scan.projection.columns c.in_ok-columns.columns.items =
    projection_columns first block c.as_slice.result.now scan.projection.columns c.columns-2.result.now scan.filter.columns c.as_slice-2.result.now c.in_ok-columns.columns.items names others known c.in_ok-columns.ensures.columns in
    let kept : c.as_slice-4.result.now ≡ map (kept_column filtered.keep.rows) c.in_ok-columns.columns.items =
    c.as_slice-4.ensures.value ∙ c.in_ok-kept.ensures ∙ ap (map (kept_column filtered.keep.rows)) c.as_slice-3.ensures.value in
    part_ran slots p (reads_in block (further_columns (row_type first.zones.columns) f p)) block (length filtered.keep.rows) (matching_rows (row_type first.zones.columns) slots f) first last (Ok c.in_ok-values.values) told reads
    (c.in_ok-values.ensures.causes first.zones.columns p h.projection h.distinct (kept_of_type first slots f scan.projection.columns scan.filter.columns block filtered c.in_ok-columns.columns.items c.as_slice-4.result.now k own kept))
    (gives_kept first slots f p scan.projection scan.filter.columns block filtered c.in_ok-columns.columns.items c.as_slice-4.result.now (Ok c.in_ok-values.values) c.requires.agrees k own h.projection h.distinct kept c.in_ok-values.ensures.told)

pub returns-clause-rows : goal.returns-clause-rows
returns-clause-rows g c = λ f p h k.
    let first = g.S.ColumnStore.seen c.args.store.now in
    let slots = c.args.slots.now in
    let scan = c.args.scan.now in
    let filtered = c.args.filtered.now in
    let block = c.args.block in
    let names : c.as_slice.result.now ≡ scan.projection.columns = c.as_slice.ensures ∙ c.columns.ensures in
    let others : c.columns-2.result.now ≡ scan.filter.columns = c.columns-2.ensures in
    let known : AreColumnsOf first block scan.filter.columns c.as_slice-2.result.now = subst (λ (xs : List Column). AreColumnsOf first block scan.filter.columns xs) (sym c.as_slice-2.ensures.value) k.columns in
    let own : AreColumnsOf first block scan.projection.columns c.in_ok-columns.columns.items =
    projection_columns first block c.as_slice.result.now scan.projection.columns c.columns-2.result.now scan.filter.columns c.as_slice-2.result.now c.in_ok-columns.columns.items names others known c.in_ok-columns.ensures.columns in
    let kept : c.as_slice-4.result.now ≡ map (kept_column filtered.keep.rows) c.in_ok-columns.columns.items =
    c.as_slice-4.ensures.value ∙ c.in_ok-kept.ensures ∙ ap (map (kept_column filtered.keep.rows)) c.as_slice-3.ensures.value in
    let u = type_view scan.projection.dtype in
    rows_added first slots f p block (seen_rows u c.args.rows.now.items) (seen_rows u c.push_values.new.rows.items) c.in_ok-values.values
    (gives_kept first slots f p scan.projection scan.filter.columns block filtered c.in_ok-columns.columns.items c.as_slice-4.result.now (Ok c.in_ok-values.values) c.requires.agrees k own h.projection h.distinct kept c.in_ok-values.ensures.told)
    (c.in_ok-push_values.ensures.rows u c.in_ok-values.ensures.dtype)
