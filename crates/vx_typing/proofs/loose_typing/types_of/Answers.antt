use Rattle.std.proofs.Common.{Err, ap, sym, ◌∙◌}
use Rattle.vx_typing.proofs.LooseNodes.{one_typed, one_refuses, all_answered}
use Rattle.vx_typing.proofs.loose_typing.types_of.Goals as goal

pub returns-in-Err : goal.returns-in-Err
returns-in-Err c t es h =
    let l = c.loop-answer in
    one_refuses t es c.args.answers.now l.answer-index c.again.result l.types.items c.answer-item.result h c.loop-answer-test.true c.answer-item.is
    (c.in-Err.is ∙ ap Err (sym c.again.ensures)) (l.invariant t es h)

pub loop-answer-preserved : goal.loop-answer-preserved
loop-answer-preserved c t es h =
    let l = c.loop-answer in
    one_typed t es c.args.answers.now l.answer-index c.in-Ok.dtype c.in_ok-clone-in-Ok.field-0 l.types.items c.push.new.self.items c.answer-item.result
    h c.loop-answer-test.true c.answer-item.is c.in-Ok.is c.in_ok-clone-in-Ok.ensures.cases c.in_ok-push-in-Ok.ensures.items (l.invariant t es h)

pub returns : goal.returns
returns c t es h =
    let l = c.loop-answer in
    all_answered t es c.args.answers.now l.answer-index l.types.items h c.loop-answer-test.false (l.invariant t es h)
