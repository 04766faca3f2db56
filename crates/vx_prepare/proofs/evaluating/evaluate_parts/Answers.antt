use Rattle.std.proofs.Common.{◌<◌, ap, sym, ◌∙◌, arith, length, subst, option_copied}
use Rattle.std.proofs.lemmas.Option.{none-some}
use Rattle.std.proofs.lemmas.Result.{err_from_is_err_and}
use Rattle.vx_prepare.specs.Parts.{IsHeld}
use Rattle.vx_prepare.proofs.GivenLemmas.{given_more, refuses_at, held_long}
use Rattle.vx_prepare.proofs.ListLemmas.{read_at}
use Rattle.vx_prepare.proofs.evaluating.evaluate_parts.Goals as goal

pub unreachable-requires : goal.unreachable-requires
unreachable-requires c =
    let name = c.index-name.result.now in
    let below : c.loop-i.i < length c.args.split.now.partition_annotations.items = omega (arith, c.loop-i-test.true, c.len-i-end.ensures, c.requires.lengths) in
    let held : IsHeld c.args.len c.args.names.now c.args.columns.now name =
    subst (λ a. IsHeld c.args.len c.args.names.now c.args.columns.now a) (sym c.index-name.ensures) (c.requires.held c.loop-i.i name below) in
    none-some held.0 (sym (ap option_copied c.in_default.is) ∙ c.column_under.ensures ∙ held.1)

pub evaluate_part-requires : goal.evaluate_part-requires
evaluate_part-requires c =
    let name = c.index-name.result.now in
    let below : c.loop-i.i < length c.args.split.now.partition_annotations.items = omega (arith, c.loop-i-test.true, c.len-i-end.ensures, c.requires.lengths) in
    let held : IsHeld c.args.len c.args.names.now c.args.columns.now name =
    subst (λ a. IsHeld c.args.len c.args.names.now c.args.columns.now a) (sym c.index-name.ensures) (c.requires.held c.loop-i.i name below) in
    held_long c.args.len c.args.names.now c.args.columns.now name c.in-Some.column.now held (sym c.column_under.ensures ∙ ap option_copied c.in-Some.is)

pub returns-in_err-part : goal.returns-in_err-part
returns-in_err-part c =
    let keys = c.args.split.now.partition_annotations.items in
    let es = c.args.split.now.partitions.items in
    let within : c.loop-i.i < length es = omega (arith, c.loop-i-test.true, c.len-i-end.ensures) in
    let below : c.loop-i.i < length keys = omega (arith, within, c.requires.lengths) in
    let at = read_at keys c.loop-i.i c.index-name.result.now below c.index-name.ensures in
    let here = read_at es c.loop-i.i c.index.result.now within c.index.ensures in
    let first = sym c.column_under.ensures ∙ ap option_copied c.in-Some.is in
    let p = err_from_is_err_and c.from_residual.result c.from_residual.ensures.1 in
    rw (p.1, p.2)
    (refuses_at c.args.len c.args.slots.now c.args.names.now c.args.columns.now keys es c.in_err-part.field-0.0
    (c.loop-i.i, c.index-name.result.now, c.index.result.now, at, here, (c.in-Some.column.now, first, c.in_err-part.ensures)))

pub loop-i-preserved : goal.loop-i-preserved
loop-i-preserved c =
    let keys = c.args.split.now.partition_annotations.items in
    let es = c.args.split.now.partitions.items in
    let within : c.loop-i.i < length es = omega (arith, c.loop-i-test.true, c.len-i-end.ensures) in
    let below : c.loop-i.i < length keys = omega (arith, within, c.requires.lengths) in
    let at = read_at keys c.loop-i.i c.index-name.result.now below c.index-name.ensures in
    let here = read_at es c.loop-i.i c.index.result.now within c.index.ensures in
    let first = sym c.column_under.ensures ∙ ap option_copied c.in-Some.is in
    given_more c.args.len c.args.slots.now c.args.names.now c.args.columns.now keys es c.loop-i.i c.loop-i.parts.items c.push.new.self.items
    c.index-name.result.now c.index.result.now c.in_ok-part.part at here c.in_ok-push.ensures.items c.loop-i.invariant (c.in-Some.column.now, first, c.in_ok-part.ensures)
