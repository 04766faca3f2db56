use Rattle.std.proofs.Common.{◌≡◌, ◌-◌, ◌+◌, ap, ◌∙◌, arith, subst, length, map}
use Rattle.vx_dtype.specs.TypeViews.{type_view}
use Rattle.vx_expr.specs.Trees.{Tree, children_of}
use Rattle.vx_typing.specs.OperandTypes.{IsLooselyAnswered}
use Rattle.vx_typing.proofs.PostOrderValues.{begun, ended, one_made, enough, operands_taken, goes_on, node_here, none_left}
use Rattle.vx_typing.proofs.loose_typing.return_dtype.Goals as goal

pub loop-node-init : goal.loop-node-init
loop-node-init c =
    begun (IsLooselyAnswered (type_view c.args.scope.now)) c.args.expr.now (map (λ e. e.now) c.as_slice-node-items.result.now) c.new-answers.result.items
    (ap (map (λ e. e.now)) c.as_slice-node-items.ensures.value ∙ c.in_ok-nodes.ensures) c.new-answers.ensures.items

pub overflow_sub-len : goal.overflow_sub-len
overflow_sub-len c =
    let t = type_view c.args.scope.now in
    let here = node_here (λ e. e.now) c.as_slice-node-items.result.now c.loop-node.node-index c.node-item.result c.loop-node-test.true c.node-item.is in
    omega (arith, enough (IsLooselyAnswered t) c.loop-node.answers.items c.args.expr.now here c.loop-node.invariant, c.len.ensures, c.children_count.ensures)

pub node_answer-answer-requires : goal.node_answer-answer-requires
node_answer-answer-requires c =
    let t = type_view c.args.scope.now in
    let n = c.node-item.result.now in
    let l = c.loop-node in
    let here = node_here (λ e. e.now) c.as_slice-node-items.result.now l.node-index c.node-item.result c.loop-node-test.true c.node-item.is in
    let long = enough (IsLooselyAnswered t) l.answers.items c.args.expr.now here l.invariant in
    let place : (c.len.result - c.children_count.result) + length (children_of n) ≡ length l.answers.items = omega (arith, long, c.len.ensures, c.children_count.ensures) in
    let answered = operands_taken (IsLooselyAnswered t) l.answers.items c.args.expr.now here l.invariant (c.len.result - c.children_count.result) c.in_ok-operands.operands.items place c.in_ok-operands.ensures.tail in
    rw (c.expr.ensures, c.as_slice.ensures.value) answered

pub loop-node-preserved : goal.loop-node-preserved
loop-node-preserved c =
    let t = type_view c.args.scope.now in
    let n = c.node-item.result.now in
    let l = c.loop-node in
    let here = node_here (λ e. e.now) c.as_slice-node-items.result.now l.node-index c.node-item.result c.loop-node-test.true c.node-item.is in
    let long = enough (IsLooselyAnswered t) l.answers.items c.args.expr.now here l.invariant in
    let place : (c.len.result - c.children_count.result) + length (children_of n) ≡ length l.answers.items = omega (arith, long, c.len.ensures, c.children_count.ensures) in
    goes_on (IsLooselyAnswered t) l.answers.items c.args.expr.now here l.invariant (c.len.result - c.children_count.result) c.split_off.new.self.items c.push.new.self.items c.node_answer-answer.result
    place c.in_ok-operands.ensures.items c.in_ok-push.ensures.items (subst (λ (e : Tree). IsLooselyAnswered t e c.node_answer-answer.result) c.expr.ensures c.node_answer-answer.ensures)

pub unreachable-requires : goal.unreachable-requires
unreachable-requires c =
    let none = none_left (λ e. e.now) c.as_slice-node-items.result.now c.loop-node.node-index c.loop-node-test.false in
    omega (arith, one_made (IsLooselyAnswered (type_view c.args.scope.now)) c.loop-node.answers.items c.args.expr.now none c.loop-node.invariant, c.in-None.ensures.len, c.in-None.ensures.cases)

pub returns : goal.returns
returns c =
    let none = none_left (λ e. e.now) c.as_slice-node-items.result.now c.loop-node.node-index c.loop-node-test.false in
    ended (IsLooselyAnswered (type_view c.args.scope.now)) c.loop-node.answers.items c.args.expr.now none c.loop-node.invariant c.pop.new.self.items c.in-Some.answer c.in-Some.ensures.items
