use Rattle.std.proofs.Common.{◌≡◌, ◌∙◌, ap, length, arith}
use Rattle.vx_laws_shell.specs.Running.{end_by}
use Rattle.vx_semantics.specs.Tables.{Zones}
use Rattle.vx_shell_words.specs.WordViews.{asked_view, range_view}
use Rattle.vx_shell.proofs.PartAnswers.{past_finds, range_finds}
use Rattle.vx_shell.proofs.answers.answer_range.Goals as goal

pub answer_part-requires : goal.answer_part-requires
answer_part-requires g c =
    let store = g.S.ColumnStore.seen c.args.store in
    let same : length c.lengths-blocks.result.now ≡ length store.zones.lengths = ap (λ ns. length ns) (c.lengths-blocks.ensures.lengths ∙ ap (λ (z : Zones). z.lengths) c.zones.ensures.zones) in
    record { order = c.requires.order; within = omega (arith, same, c.if-range-blocks.false); agrees = c.zones.ensures.agrees }

pub returns-clause-answers : goal.returns-clause-answers
returns-clause-answers g c =
    let seen = g.S.ColumnStore.seen in
    let before = end_by g.O.Sink.written g.O.Sink.faults c.args.output.now in
    let after = end_by g.O.Sink.written g.O.Sink.faults c.answer_part.new.output in
    range_finds (asked_view c.args.asked) (range_view c.args.range) (seen c.args.store) (seen c.answer_part.result.store) before after c.answer_part.result.found
    c.requires.blocks c.answer_part.ensures.finds

pub returns-then-range-blocks-clause-answers : goal.returns-then-range-blocks-clause-answers
returns-then-range-blocks-clause-answers g c =
    let store = g.S.ColumnStore.seen c.args.store in
    let output = end_by g.O.Sink.written g.O.Sink.faults c.args.output.now in
    let same : length c.lengths-blocks.result.now ≡ length store.zones.lengths = ap (λ ns. length ns) (c.lengths-blocks.ensures.lengths ∙ ap (λ (z : Zones). z.lengths) c.zones.ensures.zones) in
    past_finds (asked_view c.args.asked) (range_view c.args.range) c.args.range (length c.lengths-blocks.result.now) store output c.requires.blocks (omega (arith, same, c.if-range-blocks.true))
    c.zones.ensures.agrees
