use Rattle.std.proofs.Common.{refl, []}
use Rattle.vx_laws_shell.specs.Answers.{answer_found, found_in_order}
use Rattle.vx_laws_shell.specs.Running.{end_by}
use Rattle.vx_scan.specs.Steps.{IsRuledScan}
use Rattle.vx_scan.proofs.StandLemmas.{filter_checked, ruled_here}
use Rattle.vx_shell.specs.declared.errors.Refusal.TheVariants.{NoMemory}
use Rattle.vx_shell.proofs.OrderedSteps.{finds_no_room_as, ordered_finds}
use Rattle.vx_shell.proofs.rows_in_order.write_prepared.Goals as goal

pub ruled_out-requires-clause-typed : goal.ruled_out-requires-clause-typed
ruled_out-requires-clause-typed g c =
    let store = g.S.ColumnStore.seen c.args.store.now in
    (filter_checked [] c.args.filter.now c.requires.prepared.0 c.args.scan.now store store.zones c.zones.result.now refl c.zones.ensures.zones c.requires.prepared.1).0

pub ruled_out-requires-clause-slots : goal.ruled_out-requires-clause-slots
ruled_out-requires-clause-slots g c =
    let store = g.S.ColumnStore.seen c.args.store.now in
    (filter_checked [] c.args.filter.now c.requires.prepared.0 c.args.scan.now store store.zones c.zones.result.now refl c.zones.ensures.zones c.requires.prepared.1).1

pub write_blocks-requires : goal.write_blocks-requires
write_blocks-requires g c =
    let store = g.S.ColumnStore.seen c.args.store.now in
    record {
      ruled = (
        c.args.filter.now,
        c.requires.prepared.0,
        ruled_here [] c.args.filter.now c.requires.prepared.0 c.args.scan.now store store.zones c.zones.result.now c.as_slice.result.now c.in-Ok.flags.items refl
            c.zones.ensures.zones c.requires.prepared.1 c.as_slice.ensures.value c.in-Ok.ensures,
      );
    }

pub returns-in-Ok-clause-same : goal.returns-in-Ok-clause-same
returns-in-Ok-clause-same g c = c.write_blocks.ensures.goes.same

pub returns-in-Ok-clause-later : goal.returns-in-Ok-clause-later
returns-in-Ok-clause-later g c = c.write_blocks.ensures.goes.later

pub returns-in-Ok-clause-finds : goal.returns-in-Ok-clause-finds
returns-in-Ok-clause-finds g c = λ p h.
    let first = g.S.ColumnStore.seen c.args.store.now in
    let last = g.S.ColumnStore.seen c.write_blocks.new.store in
    let before = end_by g.O.Sink.written g.O.Sink.faults c.args.output.now in
    let after = end_by g.O.Sink.written g.O.Sink.faults c.write_blocks.new.output in
    let ruled : IsRuledScan first.zones [] c.args.filter.now p c.args.scan.now c.as_slice.result.now =
    ruled_here [] c.args.filter.now p c.args.scan.now first first.zones c.zones.result.now c.as_slice.result.now c.in-Ok.flags.items refl c.zones.ensures.zones h
    c.as_slice.ensures.value c.in-Ok.ensures in
    ordered_finds c.args.filter.now p c.args.limit first last before after c.write_blocks.result c.write_blocks.ensures.goes c.write_blocks.ensures.cause
    c.write_blocks.ensures.few c.write_blocks.ensures.agrees (c.write_blocks.ensures.runs c.args.filter.now p ruled)

pub returns-in-Err-clause-finds : goal.returns-in-Err-clause-finds
returns-in-Err-clause-finds g c = λ p h.
    let store = g.S.ColumnStore.seen c.args.store.now in
    let output = end_by g.O.Sink.written g.O.Sink.faults c.args.output.now in
    finds_no_room_as (λ is_damaged table. answer_found is_damaged table (found_in_order is_damaged table store.zones c.args.filter.now p c.args.limit)) store
    output NoMemory refl
