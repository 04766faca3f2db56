use Rattle.std.proofs.Common.{◌≡◌, ◌∙◌, ap, sym, subst, refl, ◌-◌, ◌^◌, ◌<◌, Bool, false, [], length, get_or, arith}
use Rattle.std.specs.List.{sum}
use Rattle.vx_laws_shell.specs.Running.{end_by}
use Rattle.vx_scan.proofs.ReadLemmas.{the_error}
use Rattle.vx_scan.proofs.StandLemmas.{prepared_moved, flags_long}
use Rattle.vx_scan.specs.Stores.{WhereTold}
use Rattle.vx_semantics.specs.Tables.{Zones}
use Rattle.vx_shell.specs.Founds.{CountsFault}
use Rattle.vx_shell.specs.OrderedSteps.{RunsToEnd}
use Rattle.vx_shell.specs.declared.answers.Found.{Found}
use Rattle.vx_shell.specs.declared.rows_in_order.Written.{Written}
use Rattle.vx_shell.proofs.OrderedSteps.{goes_nowhere, goes_on, counts_on, come_on_told, come_ended_told, come_to_end_told, start_told}
use Rattle.vx_shell.proofs.rows_in_order.write_blocks.Goals as goal

pub loop-block-init : goal.loop-block-init
loop-block-init g c =
    let first = g.S.ColumnStore.seen c.args.store.now in
    let start = end_by g.O.Sink.written g.O.Sink.faults c.args.output.now in
    record {
      moves = g.met.S.ColumnStore.stays c.args.store.now;
      goes = goes_nowhere first start;
      few = omega arith;
      told = λ f p h. start_told f p c.args.limit first start;
    }

pub bounds-flags-block : goal.bounds-flags-block
bounds-flags-block g c =
    let first = g.S.ColumnStore.seen c.args.store.now in
    let ruled = c.requires.ruled in
    let number : c.number_of_blocks-blocks.result ≡ length first.zones.lengths =
    c.number_of_blocks-blocks.ensures.number ∙ ap (λ (z : Zones). length z.lengths) c.zones.ensures.zones in
    let long : length c.args.flags.now ≡ length first.zones.lengths = flags_long first.zones [] ruled.0 ruled.1 c.args.scan.now c.args.flags.now ruled.2 in
    omega (arith, number, long, c.loop-block-test.true)

pub write_or_skip-requires : goal.write_or_skip-requires
write_or_skip-requires g c =
    let l = c.loop-block in
    let first = g.S.ColumnStore.seen c.args.store.now in
    let now = g.S.ColumnStore.seen l.store in
    let ruled = c.requires.ruled in
    let number : c.number_of_blocks-blocks.result ≡ length first.zones.lengths =
    c.number_of_blocks-blocks.ensures.number ∙ ap (λ (z : Zones). length z.lengths) c.zones.ensures.zones in
    let same : length now.zones.lengths ≡ length first.zones.lengths = ap (λ (z : Zones). length z.lengths) l.invariant.goes.same.zones in
    record {
      prepared = (ruled.0, ruled.1, prepared_moved first now [] ruled.0 ruled.1 c.args.scan.now l.invariant.goes.same.zones ruled.2.prepared);
      block = omega (arith, number, same, l.invariant.few, c.loop-block-test.true);
      few = omega (arith, l.invariant.few, c.loop-block-test.true);
    }

pub loop-block-preserved : goal.loop-block-preserved
loop-block-preserved g c =
    let l = c.loop-block in
    let first = g.S.ColumnStore.seen c.args.store.now in
    let now = g.S.ColumnStore.seen l.store in
    let next = g.S.ColumnStore.seen c.write_or_skip.new.store in
    let start = end_by g.O.Sink.written g.O.Sink.faults c.args.output.now in
    let output = end_by g.O.Sink.written g.O.Sink.faults l.output in
    let after = end_by g.O.Sink.written g.O.Sink.faults c.write_or_skip.new.output in
    let scan = c.args.scan.now in
    let so_far = l.invariant in
    let turn = c.in_ok-written in
    let number : c.number_of_blocks-blocks.result ≡ length first.zones.lengths =
    c.number_of_blocks-blocks.ensures.number ∙ ap (λ (z : Zones). length z.lengths) c.zones.ensures.zones in
    let there : l.block < length first.zones.lengths = omega (arith, number, c.loop-block-test.true) in
    let flag : Bool = get_or c.args.flags.now l.block false in
    record {
      moves = g.met.S.ColumnStore.goes_on c.args.store.now l.store c.write_or_skip.new.store so_far.moves turn.ensures.moves;
      goes = goes_on first now next start output after so_far.goes turn.ensures.goes;
      few = omega (arith, so_far.few, turn.ensures.scanned);
      told = λ f p h.
          come_on_told f p scan c.args.flags.now l.block c.args.limit flag false first now next start output after l.written turn.written h there refl so_far.goes.same
          c.zones.ensures.agrees (so_far.told f p h) (turn.ensures.turn f p (prepared_moved first now [] f p scan so_far.goes.same.zones h.prepared));
    }

pub returns-in_err-written-clause-moves : goal.returns-in_err-written-clause-moves
returns-in_err-written-clause-moves g c =
    let l = c.loop-block in
    g.met.S.ColumnStore.goes_on c.args.store.now l.store c.write_or_skip.new.store l.invariant.moves c.in_err-written.ensures.moves

pub returns-in_err-written-clause-goes : goal.returns-in_err-written-clause-goes
returns-in_err-written-clause-goes g c =
    let l = c.loop-block in
    goes_on (g.S.ColumnStore.seen c.args.store.now) (g.S.ColumnStore.seen l.store) (g.S.ColumnStore.seen c.write_or_skip.new.store)
    (end_by g.O.Sink.written g.O.Sink.faults c.args.output.now) (end_by g.O.Sink.written g.O.Sink.faults l.output)
    (end_by g.O.Sink.written g.O.Sink.faults c.write_or_skip.new.output) l.invariant.goes c.in_err-written.ensures.goes

pub returns-in_err-written-clause-cause : goal.returns-in_err-written-clause-cause
returns-in_err-written-clause-cause g c =
    let l = c.loop-block in
    let first = g.S.ColumnStore.seen c.args.store.now in
    let now = g.S.ColumnStore.seen l.store in
    let next = g.S.ColumnStore.seen c.write_or_skip.new.store in
    let start = end_by g.O.Sink.written g.O.Sink.faults c.args.output.now in
    let output = end_by g.O.Sink.written g.O.Sink.faults l.output in
    let after = end_by g.O.Sink.written g.O.Sink.faults c.write_or_skip.new.output in
    let refusal = c.in_err-written.field-0.0 in
    let end = the_error c.from_residual.result refusal c.from_residual.ensures.0 c.from_residual.ensures.1 in
    subst (λ r. CountsFault r first next start after) (sym end)
    (counts_on Written Found refusal first now next start output after l.invariant.goes.same.later l.invariant.goes.later c.in_err-written.ensures.cause)

pub returns-in_err-written-clause-few : goal.returns-in_err-written-clause-few
returns-in_err-written-clause-few g c = subst (λ (z : Zones). sum z.lengths < 2 ^ 64) c.zones.ensures.zones c.number_of_blocks-blocks.ensures.rows

pub returns-in_err-written-clause-runs : goal.returns-in_err-written-clause-runs
returns-in_err-written-clause-runs g c = λ f p h.
    let l = c.loop-block in
    let first = g.S.ColumnStore.seen c.args.store.now in
    let now = g.S.ColumnStore.seen l.store in
    let next = g.S.ColumnStore.seen c.write_or_skip.new.store in
    let start = end_by g.O.Sink.written g.O.Sink.faults c.args.output.now in
    let output = end_by g.O.Sink.written g.O.Sink.faults l.output in
    let after = end_by g.O.Sink.written g.O.Sink.faults c.write_or_skip.new.output in
    let scan = c.args.scan.now in
    let so_far = l.invariant in
    let number : c.number_of_blocks-blocks.result ≡ length first.zones.lengths =
    c.number_of_blocks-blocks.ensures.number ∙ ap (λ (z : Zones). length z.lengths) c.zones.ensures.zones in
    let there : l.block < length first.zones.lengths = omega (arith, number, c.loop-block-test.true) in
    let flag : Bool = get_or c.args.flags.now l.block false in
    let refusal = c.in_err-written.field-0.0 in
    let end = the_error c.from_residual.result refusal c.from_residual.ensures.0 c.from_residual.ensures.1 in
    subst (λ r. WhereTold first.held (RunsToEnd f p c.args.limit first next start after r)) (sym end)
    (come_ended_told f p scan c.args.flags.now l.block c.args.limit flag false first now next start output after l.written refusal h there refl so_far.goes.same
    c.zones.ensures.agrees (so_far.told f p h)
    (c.in_err-written.ensures.turn f p (prepared_moved first now [] f p scan so_far.goes.same.zones h.prepared)))

pub returns-clause-few : goal.returns-clause-few
returns-clause-few g c = subst (λ (z : Zones). sum z.lengths < 2 ^ 64) c.zones.ensures.zones c.number_of_blocks-blocks.ensures.rows

pub returns-clause-runs : goal.returns-clause-runs
returns-clause-runs g c = λ f p h.
    let l = c.loop-block in
    let first = g.S.ColumnStore.seen c.args.store.now in
    let now = g.S.ColumnStore.seen l.store in
    let start = end_by g.O.Sink.written g.O.Sink.faults c.args.output.now in
    let output = end_by g.O.Sink.written g.O.Sink.faults l.output in
    let number : c.number_of_blocks-blocks.result ≡ length first.zones.lengths =
    c.number_of_blocks-blocks.ensures.number ∙ ap (λ (z : Zones). length z.lengths) c.zones.ensures.zones in
    let found : Found = record {
      blocks = c.number_of_blocks-blocks.result;
      skipped = c.number_of_blocks-blocks.result - l.written.scanned;
      rows = l.written.rows;
    } in
    come_to_end_told f p l.block c.args.limit l.written first now start output found (omega (arith, number, c.loop-block-test.false)) number refl refl c.zones.ensures.agrees
    (l.invariant.told f p h)
