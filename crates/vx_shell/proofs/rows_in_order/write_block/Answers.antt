use Rattle.std.proofs.Common.{◌≡◌, ◌∙◌, subst, List, Err}
use Rattle.vx_column.specs.Columns.{seen_rows, values_fit}
use Rattle.vx_dtype.specs.TypeViews.{type_view}
use Rattle.vx_dtype.specs.Values.{Val}
use Rattle.vx_laws_shell.specs.Running.{end_by}
use Rattle.vx_scan.specs.ErrorKinds.{kind_of}
use Rattle.vx_shell.specs.OrderedSteps.{WritesWanted}
use Rattle.vx_shell.specs.declared.rows_in_order.Written.{Written}
use Rattle.vx_shell.proofs.OrderedSteps.{block_goes, stop_counts, wanted_go, wanted_counts, wanted_scanned, wanted_told, stopped_told}
use Rattle.vx_shell.proofs.rows_in_order.write_block.Goals as goal

pub write_wanted-requires-clause-fit : goal.write_wanted-requires-clause-fit
write_wanted-requires-clause-fit g c =
    let same : values_fit (type_view c.dtype.result.now) c.as_slice.result.now ≡ values_fit (type_view c.args.scan.now.projection.dtype) c.in-Ok.rows.items =
    λ i. values_fit (c.dtype.ensures i) (c.as_slice.ensures.value i) in
    same ∙ c.in-Ok.ensures.fit

pub returns-in-Ok-clause-goes : goal.returns-in-Ok-clause-goes
returns-in-Ok-clause-goes g c =
    let h = c.requires.prepared in
    let first = g.S.ColumnStore.seen c.args.store.now in
    let last = g.S.ColumnStore.seen c.rows_of_block.new.store in
    let before = end_by g.O.Sink.written g.O.Sink.faults c.args.output.now in
    let after = end_by g.O.Sink.written g.O.Sink.faults c.write_wanted.new.output in
    let given = seen_rows (type_view c.args.scan.now.projection.dtype) c.in-Ok.rows.items in
    let same : seen_rows (type_view c.dtype.result.now) c.as_slice.result.now ≡ given = λ i. seen_rows (c.dtype.ensures i) (c.as_slice.ensures.value i) in
    wanted_go h.0 h.1 c.args.block first last before after given c.args.written c.write_wanted.result (c.in-Ok.ensures.gives h.0 h.1 h.2)
    (subst (λ (vs : List Val). WritesWanted vs c.args.written before after c.write_wanted.result) same c.write_wanted.ensures.writes) c.write_wanted.ensures.later

pub returns-in-Ok-clause-cause : goal.returns-in-Ok-clause-cause
returns-in-Ok-clause-cause g c =
    let first = g.S.ColumnStore.seen c.args.store.now in
    let last = g.S.ColumnStore.seen c.rows_of_block.new.store in
    let before = end_by g.O.Sink.written g.O.Sink.faults c.args.output.now in
    let after = end_by g.O.Sink.written g.O.Sink.faults c.write_wanted.new.output in
    wanted_counts first last before after (seen_rows (type_view c.dtype.result.now) c.as_slice.result.now) c.args.written c.write_wanted.result
    c.write_wanted.ensures.writes

pub returns-in-Ok-clause-scanned : goal.returns-in-Ok-clause-scanned
returns-in-Ok-clause-scanned g c =
    let before = end_by g.O.Sink.written g.O.Sink.faults c.args.output.now in
    let after = end_by g.O.Sink.written g.O.Sink.faults c.write_wanted.new.output in
    wanted_scanned before after (seen_rows (type_view c.dtype.result.now) c.as_slice.result.now) c.args.written c.write_wanted.result c.write_wanted.ensures.writes

pub returns-in-Ok-clause-turn : goal.returns-in-Ok-clause-turn
returns-in-Ok-clause-turn g c = λ f p h.
    let first = g.S.ColumnStore.seen c.args.store.now in
    let last = g.S.ColumnStore.seen c.rows_of_block.new.store in
    let before = end_by g.O.Sink.written g.O.Sink.faults c.args.output.now in
    let after = end_by g.O.Sink.written g.O.Sink.faults c.write_wanted.new.output in
    let given = seen_rows (type_view c.args.scan.now.projection.dtype) c.in-Ok.rows.items in
    let same : seen_rows (type_view c.dtype.result.now) c.as_slice.result.now ≡ given = λ i. seen_rows (c.dtype.ensures i) (c.as_slice.ensures.value i) in
    wanted_told f p c.args.block c.args.written first last before after given c.write_wanted.result c.requires.wanted c.write_wanted.ensures.later
    (subst (λ (vs : List Val). WritesWanted vs c.args.written before after c.write_wanted.result) same c.write_wanted.ensures.writes)
    (c.in-Ok.ensures.gives f p h)

pub returns-in-Err-clause-goes : goal.returns-in-Err-clause-goes
returns-in-Err-clause-goes g c =
    let h = c.requires.prepared in
    let first = g.S.ColumnStore.seen c.args.store.now in
    let last = g.S.ColumnStore.seen c.rows_of_block.new.store in
    let output = end_by g.O.Sink.written g.O.Sink.faults c.args.output.now in
    let stopped = c.in-Err.ensures.gives h.0 h.1 h.2 in
    block_goes h.0 h.1 c.args.block first last output stopped.1 (Err stopped.0) stopped.2

pub returns-in-Err-clause-cause : goal.returns-in-Err-clause-cause
returns-in-Err-clause-cause g c =
    let h = c.requires.prepared in
    let first = g.S.ColumnStore.seen c.args.store.now in
    let last = g.S.ColumnStore.seen c.rows_of_block.new.store in
    let output = end_by g.O.Sink.written g.O.Sink.faults c.args.output.now in
    let stopped = c.in-Err.ensures.gives h.0 h.1 h.2 in
    stop_counts Written (kind_of stopped.0) c.in-Err.refusal h.0 h.1 c.args.block first last output output stopped.2.made stopped.3 stopped.2.ends

pub returns-in-Err-clause-turn : goal.returns-in-Err-clause-turn
returns-in-Err-clause-turn g c = λ f p h.
    let first = g.S.ColumnStore.seen c.args.store.now in
    let last = g.S.ColumnStore.seen c.rows_of_block.new.store in
    let output = end_by g.O.Sink.written g.O.Sink.faults c.args.output.now in
    let stopped = c.in-Err.ensures.gives f p h in
    stopped_told f p c.args.block c.args.written first last output stopped.0 stopped.1 c.in-Err.refusal c.requires.wanted stopped.3 stopped.2
