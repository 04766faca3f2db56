use Rattle.vx_sql.specs.StatementAnswers.{key_view}
use Rattle.vx_topk.specs.TopEnds.{top_view}
use Rattle.vx_shell.proofs.KeyedSteps.{top_comes, top_stops, top_reported}
use Rattle.vx_shell.proofs.rows_by_key.top_of.Goals as goal

pub top_refusal-requires : goal.top_refusal-requires
top_refusal-requires g c =
    let first = g.S.ColumnStore.seen c.args.store.now in
    let last = g.S.ColumnStore.seen c.top_rows.new.store in
    let typed = c.requires.typed in
    top_comes c.args.filter.now c.args.projection.now (key_view c.args.key.now) c.args.count first last c.in-Err.error typed.0 typed.1 c.in-Err.ensures.ends

pub returns-in-Ok-clause-gives : goal.returns-in-Ok-clause-gives
returns-in-Ok-clause-gives g c =
    let first = g.S.ColumnStore.seen c.args.store.now in
    let last = g.S.ColumnStore.seen c.top_rows.new.store in
    top_reported c.args.filter.now c.args.projection.now (key_view c.args.key.now) c.args.count first last (top_view c.in-Ok.report) c.in-Ok.ensures.ends

pub returns-in-Err-clause-gives : goal.returns-in-Err-clause-gives
returns-in-Err-clause-gives g c =
    let first = g.S.ColumnStore.seen c.args.store.now in
    let last = g.S.ColumnStore.seen c.top_rows.new.store in
    let typed = c.requires.typed in
    top_stops c.args.filter.now c.args.projection.now (key_view c.args.key.now) c.args.count first last c.in-Err.error c.top_refusal.result
    (top_comes c.args.filter.now c.args.projection.now (key_view c.args.key.now) c.args.count first last c.in-Err.error typed.0 typed.1 c.in-Err.ensures.ends)
    c.top_refusal.ensures c.in-Err.ensures.ends
