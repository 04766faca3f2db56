use Rattle.std.proofs.Common.{sym, inl, inr}
use Rattle.vx_laws_shell.specs.Running.{end_by}
use Rattle.vx_shell.proofs.OrderedSteps.{goes_nowhere, unscanned_told, kept_told}
use Rattle.vx_shell.proofs.rows_in_order.write_or_skip.Goals as goal

pub returns-then-is_out-clause-goes : goal.returns-then-is_out-clause-goes
returns-then-is_out-clause-goes g c =
    goes_nowhere (g.S.ColumnStore.seen c.args.store.now) (end_by g.O.Sink.written g.O.Sink.faults c.args.output.now)

pub returns-then-is_out-clause-turn : goal.returns-then-is_out-clause-turn
returns-then-is_out-clause-turn g c = λ f p h.
    unscanned_told f p c.args.is_out c.args.block c.args.written (g.S.ColumnStore.seen c.args.store.now)
    (end_by g.O.Sink.written g.O.Sink.faults c.args.output.now) (inl c.if-is_out.true)

pub returns-then-wants_none-clause-goes : goal.returns-then-wants_none-clause-goes
returns-then-wants_none-clause-goes g c =
    goes_nowhere (g.S.ColumnStore.seen c.args.store.now) (end_by g.O.Sink.written g.O.Sink.faults c.args.output.now)

pub returns-then-wants_none-clause-turn : goal.returns-then-wants_none-clause-turn
returns-then-wants_none-clause-turn g c = λ f p h.
    unscanned_told f p c.args.is_out c.args.block c.args.written (g.S.ColumnStore.seen c.args.store.now)
    (end_by g.O.Sink.written g.O.Sink.faults c.args.output.now) (inr (sym c.if-wants_none.ensures))

pub returns-clause-turn : goal.returns-clause-turn
returns-clause-turn g c = λ f p h.
    kept_told f p c.args.is_out c.args.block c.args.written (g.S.ColumnStore.seen c.args.store.now) (g.S.ColumnStore.seen c.write_block.new.store)
    (end_by g.O.Sink.written g.O.Sink.faults c.args.output.now) (end_by g.O.Sink.written g.O.Sink.faults c.write_block.new.output) c.write_block.result
    c.if-is_out.false (c.write_block.ensures.turn f p h)
