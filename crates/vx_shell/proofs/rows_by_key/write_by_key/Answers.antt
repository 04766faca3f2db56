use Rattle.std.proofs.Common.{◌≡◌, ◌∙◌, ap, length, arith}
use Rattle.vx_laws_shell.specs.Running.{end_by}
use Rattle.vx_semantics.specs.Tables.{Zones}
use Rattle.vx_sql.specs.StatementAnswers.{key_view}
use Rattle.vx_topk.specs.TopEnds.{top_view}
use Rattle.vx_shell.proofs.KeyedSteps.{few_skipped, keyed_ends, keyed_stopped}
use Rattle.vx_shell.proofs.rows_by_key.write_by_key.Goals as goal

pub write_top-requires-clause-few : goal.write_top-requires-clause-few
write_top-requires-clause-few g c =
    let first = g.S.ColumnStore.seen c.args.store.now in
    let last = g.S.ColumnStore.seen c.top_of.new.store in
    let number : c.number_of_blocks-blocks.result ≡ length first.zones.lengths =
    c.number_of_blocks-blocks.ensures.number ∙ ap (λ (z : Zones). length z.lengths) c.zones.ensures.zones in
    let few = few_skipped c.args.filter.now c.args.projection.now (key_view c.args.key.now) c.args.count first last (top_view c.in-Ok.report) c.in-Ok.ensures.gives in
    omega (arith, number, few)

pub returns-in-Ok-clause-finds : goal.returns-in-Ok-clause-finds
returns-in-Ok-clause-finds g c =
    let first = g.S.ColumnStore.seen c.args.store.now in
    let last = g.S.ColumnStore.seen c.top_of.new.store in
    let before = end_by g.O.Sink.written g.O.Sink.faults c.args.output.now in
    let after = end_by g.O.Sink.written g.O.Sink.faults c.write_top.new.output in
    let number : c.number_of_blocks-blocks.result ≡ length first.zones.lengths =
    c.number_of_blocks-blocks.ensures.number ∙ ap (λ (z : Zones). length z.lengths) c.zones.ensures.zones in
    keyed_ends c.args.filter.now c.args.projection.now (key_view c.args.key.now) c.args.count first last before after (top_view c.in-Ok.report)
    c.number_of_blocks-blocks.result c.write_top.result number c.zones.ensures.agrees c.in-Ok.ensures.gives c.write_top.ensures.writes

pub returns-in-Err-clause-finds : goal.returns-in-Err-clause-finds
returns-in-Err-clause-finds g c =
    let first = g.S.ColumnStore.seen c.args.store.now in
    let last = g.S.ColumnStore.seen c.top_of.new.store in
    let output = end_by g.O.Sink.written g.O.Sink.faults c.args.output.now in
    keyed_stopped c.args.filter.now c.args.projection.now (key_view c.args.key.now) c.args.count first last output c.in-Err.refusal c.in-Err.ensures.gives
