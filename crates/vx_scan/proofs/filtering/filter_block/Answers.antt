use Rattle.std.proofs.Common.{◌≡◌, ◌∙◌, sym, ap, List, [], Some, Ok, Err, subst}
use Rattle.vx_dtype.specs.TypeViews.{type_view}
use Rattle.vx_column.specs.Columns.{Column}
use Rattle.vx_column.proofs.TrueCounts.{length_kept_self}
use Rattle.vx_semantics.specs.Asked.{asked_columns}
use Rattle.vx_semantics.specs.Scans.{reads_in}
use Rattle.vx_semantics.specs.Tables.{row_type}
use Rattle.vx_scan.specs.Steps.{ending, AreColumnsOf, RunsPart}
use Rattle.vx_scan.specs.declared.errors.ScanError.TheVariants.{NoMemory}
use Rattle.vx_scan.proofs.ColumnLemmas.{columns_are}
use Rattle.vx_scan.proofs.FilterLemmas.{asked_there, filter_reads, filter_columns, can_be_whole}
use Rattle.vx_scan.proofs.GivenLemmas.{block_told, gives_whole, truths_of}
use Rattle.vx_scan.proofs.NarrowLemmas.{narrow_is_bool}
use Rattle.vx_scan.proofs.PartLemmas.{part_unread, part_ran}
use Rattle.vx_scan.proofs.ReadLemmas.{the_error, reads_uncut}
use Rattle.vx_scan.proofs.filtering.filter_block.Goals as goal

pub read_columns-requires-clause-names : goal.read_columns-requires-clause-names
read_columns-requires-clause-names g c =
    asked_there (g.S.ColumnStore.seen c.args.store.now).zones.columns c.args.slots.now c.requires.prepared.0 c.args.scan.now.filter c.as_slice-names.result.now
    (c.as_slice-names.ensures ∙ c.columns.ensures) c.requires.prepared.2.filter

pub returns-in_err-none-clause-runs : goal.returns-in_err-none-clause-runs
returns-in_err-none-clause-runs g c = λ f p h.
    let first = g.S.ColumnStore.seen c.args.store.now in
    let slots = c.args.slots.now in
    let block = c.args.block in
    let told = block_told first block c.args.len c.requires.agrees c.requires.len in
    let same = the_error c.from_residual.result NoMemory c.from_residual.ensures.0 c.from_residual.ensures.1 in
    let reads = reads_in block (asked_columns (row_type first.zones.columns) f) in
    subst (λ r. RunsPart slots f reads block (λ rows. rows) first first (ending r)) (sym same) (part_unread slots f reads block c.args.len (λ rows. rows) first first NoMemory told (reads_uncut reads first))

pub returns-in_err-columns-clause-runs : goal.returns-in_err-columns-clause-runs
returns-in_err-columns-clause-runs g c = λ f p h.
    let first = g.S.ColumnStore.seen c.args.store.now in
    let last = g.S.ColumnStore.seen c.read_columns.new.store in
    let slots = c.args.slots.now in
    let scan = c.args.scan.now in
    let block = c.args.block in
    let names : c.as_slice-names.result.now ≡ scan.filter.columns = c.as_slice-names.ensures ∙ c.columns.ensures in
    let none : c.in_ok-none.none ≡ [] = c.in_ok-none.ensures ∙ c.new.ensures.items in
    let told = block_told first block c.args.len c.requires.agrees c.requires.len in
    let err = c.in_err-columns.field-0.0 in
    let same = the_error c.from_residual-in_err-columns.result err c.from_residual-in_err-columns.ensures.0 c.from_residual-in_err-columns.ensures.1 in
    let reads = filter_reads first last block c.in_ok-none.none c.as_slice-names.result.now scan.filter.columns (asked_columns (row_type first.zones.columns) f) (Err err) none names h.filter.columns c.in_err-columns.ensures.reads in
    subst (λ r. RunsPart slots f (reads_in block (asked_columns (row_type first.zones.columns) f)) block (λ rows. rows) first last (ending r)) (sym same) (part_unread slots f (reads_in block (asked_columns (row_type first.zones.columns) f)) block c.args.len (λ rows. rows) first last err told reads)

pub evaluated-requires : goal.evaluated-requires
evaluated-requires g c =
    let first = g.S.ColumnStore.seen c.args.store.now in
    let last = g.S.ColumnStore.seen c.read_columns.new.store in
    let slots = c.args.slots.now in
    let scan = c.args.scan.now in
    let block = c.args.block in
    let names : c.as_slice-names.result.now ≡ scan.filter.columns = c.as_slice-names.ensures ∙ c.columns.ensures in
    let none : c.in_ok-none.none ≡ [] = c.in_ok-none.ensures ∙ c.new.ensures.items in
    let unread : c.as_slice.result.now ≡ [] = c.as_slice.ensures.value ∙ c.new-unread.ensures.items in
    let own : AreColumnsOf first block scan.filter.columns c.in_ok-columns.columns.items =
    filter_columns first block c.in_ok-none.none c.as_slice-names.result.now scan.filter.columns c.as_slice.result.now c.in_ok-columns.columns.items none unread names c.in_ok-columns.ensures.columns in
    let columns : AreColumnsOf first block scan.filter.columns c.as_slice-2.result.now = subst (λ (xs : List Column). AreColumnsOf first block scan.filter.columns xs) (sym c.as_slice-2.ensures.value) own in
    can_be_whole first slots c.requires.prepared.0 c.requires.prepared.1 scan block c.args.len c.as_slice-2.result.now c.requires.prepared.2 c.requires.len columns

pub returns-in_err-keep-clause-runs : goal.returns-in_err-keep-clause-runs
returns-in_err-keep-clause-runs g c = λ f p h.
    let first = g.S.ColumnStore.seen c.args.store.now in
    let last = g.S.ColumnStore.seen c.read_columns.new.store in
    let slots = c.args.slots.now in
    let scan = c.args.scan.now in
    let block = c.args.block in
    let names : c.as_slice-names.result.now ≡ scan.filter.columns = c.as_slice-names.ensures ∙ c.columns.ensures in
    let none : c.in_ok-none.none ≡ [] = c.in_ok-none.ensures ∙ c.new.ensures.items in
    let told = block_told first block c.args.len c.requires.agrees c.requires.len in
    let err = c.in_err-keep.field-0.0 in
    let same = the_error c.from_residual-in_err-keep.result err c.from_residual-in_err-keep.ensures.0 c.from_residual-in_err-keep.ensures.1 in
    let reads = filter_reads first last block c.in_ok-none.none c.as_slice-names.result.now scan.filter.columns (asked_columns (row_type first.zones.columns) f) (Ok tt) none names h.filter.columns c.in_ok-columns.ensures.reads in
    let unread : c.as_slice.result.now ≡ [] = c.as_slice.ensures.value ∙ c.new-unread.ensures.items in
    let own : AreColumnsOf first block scan.filter.columns c.in_ok-columns.columns.items =
    filter_columns first block c.in_ok-none.none c.as_slice-names.result.now scan.filter.columns c.as_slice.result.now c.in_ok-columns.columns.items none unread names c.in_ok-columns.ensures.columns in
    let columns : AreColumnsOf first block scan.filter.columns c.as_slice-2.result.now = subst (λ (xs : List Column). AreColumnsOf first block scan.filter.columns xs) (sym c.as_slice-2.ensures.value) own in
    subst (λ r. RunsPart slots f (reads_in block (asked_columns (row_type first.zones.columns) f)) block (λ rows. rows) first last (ending r)) (sym same)
    (part_ran slots f (reads_in block (asked_columns (row_type first.zones.columns) f)) block c.args.len (λ rows. rows) first last (Err err) told reads
    (c.in_err-keep.ensures.causes first.zones.columns f h.filter h.distinct (columns_are first block c.args.len scan.filter.columns c.as_slice-2.result.now c.requires.len columns))
    (gives_whole first slots f scan.filter block c.args.len c.as_slice-2.result.now (Err err) c.requires.len told columns h.filter h.distinct c.in_err-keep.ensures.told))

pub true_count-count-requires : goal.true_count-count-requires
true_count-count-requires g c = narrow_is_bool c.in_ok-keep.keep.ty (type_view c.args.scan.now.filter.dtype) c.in_ok-keep.ensures.dtype c.requires.prepared.2.boolean

pub returns-clause-runs : goal.returns-clause-runs
returns-clause-runs g c = λ f p h.
    let first = g.S.ColumnStore.seen c.args.store.now in
    let last = g.S.ColumnStore.seen c.read_columns.new.store in
    let slots = c.args.slots.now in
    let scan = c.args.scan.now in
    let block = c.args.block in
    let names : c.as_slice-names.result.now ≡ scan.filter.columns = c.as_slice-names.ensures ∙ c.columns.ensures in
    let none : c.in_ok-none.none ≡ [] = c.in_ok-none.ensures ∙ c.new.ensures.items in
    let told = block_told first block c.args.len c.requires.agrees c.requires.len in
    let reads = filter_reads first last block c.in_ok-none.none c.as_slice-names.result.now scan.filter.columns (asked_columns (row_type first.zones.columns) f) (Ok tt) none names h.filter.columns c.in_ok-columns.ensures.reads in
    let unread : c.as_slice.result.now ≡ [] = c.as_slice.ensures.value ∙ c.new-unread.ensures.items in
    let own : AreColumnsOf first block scan.filter.columns c.in_ok-columns.columns.items =
    filter_columns first block c.in_ok-none.none c.as_slice-names.result.now scan.filter.columns c.as_slice.result.now c.in_ok-columns.columns.items none unread names c.in_ok-columns.ensures.columns in
    let columns : AreColumnsOf first block scan.filter.columns c.as_slice-2.result.now = subst (λ (xs : List Column). AreColumnsOf first block scan.filter.columns xs) (sym c.as_slice-2.ensures.value) own in
    part_ran slots f (reads_in block (asked_columns (row_type first.zones.columns) f)) block c.args.len (λ rows. rows) first last (Ok c.in_ok-keep.keep) told reads
    (c.in_ok-keep.ensures.causes first.zones.columns f h.filter h.distinct (columns_are first block c.args.len scan.filter.columns c.as_slice-2.result.now c.requires.len columns))
    (gives_whole first slots f scan.filter block c.args.len c.as_slice-2.result.now (Ok c.in_ok-keep.keep) c.requires.len told columns h.filter h.distinct c.in_ok-keep.ensures.told)

pub returns-clause-filtered : goal.returns-clause-filtered
returns-clause-filtered g c = λ f p h.
    let first = g.S.ColumnStore.seen c.args.store.now in
    let last = g.S.ColumnStore.seen c.read_columns.new.store in
    let slots = c.args.slots.now in
    let scan = c.args.scan.now in
    let block = c.args.block in
    let names : c.as_slice-names.result.now ≡ scan.filter.columns = c.as_slice-names.ensures ∙ c.columns.ensures in
    let none : c.in_ok-none.none ≡ [] = c.in_ok-none.ensures ∙ c.new.ensures.items in
    let told = block_told first block c.args.len c.requires.agrees c.requires.len in
    let unread : c.as_slice.result.now ≡ [] = c.as_slice.ensures.value ∙ c.new-unread.ensures.items in
    let own : AreColumnsOf first block scan.filter.columns c.in_ok-columns.columns.items =
    filter_columns first block c.in_ok-none.none c.as_slice-names.result.now scan.filter.columns c.as_slice.result.now c.in_ok-columns.columns.items none unread names c.in_ok-columns.ensures.columns in
    let columns : AreColumnsOf first block scan.filter.columns c.as_slice-2.result.now = subst (λ (xs : List Column). AreColumnsOf first block scan.filter.columns xs) (sym c.as_slice-2.ensures.value) own in
    let keep = c.in_ok-keep.keep in
    record {
      columns = own;
      len = c.requires.len ∙ ap (λ n. Some n) (sym c.in_ok-keep.ensures.len);
      boolean = narrow_is_bool keep.ty (type_view scan.filter.dtype) c.in_ok-keep.ensures.dtype h.boolean;
      count = c.true_count-count.ensures ∙ sym (length_kept_self keep.rows);
      told = truths_of first slots f block keep (gives_whole first slots f scan.filter block c.args.len c.as_slice-2.result.now (Ok keep) c.requires.len told columns h.filter h.distinct c.in_ok-keep.ensures.told);
    }
