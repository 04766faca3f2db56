use Rattle.std.proofs.Common.{◌≡◌, ◌-◌, ◌+◌, ap, ◌∙◌, sym, arith, subst, length, map}
use Rattle.std.proofs.lemmas.Result.{err_from_is_err_and}
use Rattle.std.proofs.lemmas.Slice.Zip.{AllZip-long}
use Rattle.vx_dtype.specs.TypeViews.{type_view}
use Rattle.vx_expr.specs.Trees.{children_of}
use Rattle.vx_semantics.specs.Typing.{typed_of}
use Rattle.vx_typing.specs.OperandTypes.{IsTyped}
use Rattle.vx_typing.specs.TypingAnswers.{Refuses}
use Rattle.vx_typing.proofs.NodeTypes.{HasType, refused_by}
use Rattle.vx_typing.proofs.PostOrderValues.{begun, ended, one_made, enough, operands_taken, goes_on, fails, node_here, none_left}
use Rattle.vx_typing.proofs.strict_typing.typed_over.Goals as goal

pub loop-node-init : goal.loop-node-init
loop-node-init c =
    begun (IsTyped c.args.scope.now) c.args.expr.now (map (λ e. e.now) c.as_slice-node-items.result.now) c.new-types.result.items
    (ap (map (λ e. e.now)) c.as_slice-node-items.ensures.value ∙ c.in_ok-nodes.ensures) c.new-types.ensures.items

pub overflow_sub-len : goal.overflow_sub-len
overflow_sub-len c =
    let here = node_here (λ e. e.now) c.as_slice-node-items.result.now c.loop-node.node-index c.node-item.result c.loop-node-test.true c.node-item.is in
    omega (arith, enough (IsTyped c.args.scope.now) c.loop-node.types.items c.args.expr.now here c.loop-node.invariant, c.len.ensures, c.children_count.ensures)

pub node_type-requires-clause-operands : goal.node_type-requires-clause-operands
node_type-requires-clause-operands c =
    let t = c.args.scope.now in
    let n = c.node-item.result.now in
    let l = c.loop-node in
    let here = node_here (λ e. e.now) c.as_slice-node-items.result.now l.node-index c.node-item.result c.loop-node-test.true c.node-item.is in
    let long = enough (IsTyped t) l.types.items c.args.expr.now here l.invariant in
    let place : (c.len.result - c.children_count.result) + length (children_of n) ≡ length l.types.items = omega (arith, long, c.len.ensures, c.children_count.ensures) in
    let typed = operands_taken (IsTyped t) l.types.items c.args.expr.now here l.invariant (c.len.result - c.children_count.result) c.in_ok-operands.operands.items place c.in_ok-operands.ensures.tail in
    rw c.expr.ensures typed

pub node_type-requires-clause-lengths : goal.node_type-requires-clause-lengths
node_type-requires-clause-lengths c =
    AllZip-long (IsTyped c.args.scope.now) _ c.in_ok-operands.operands.items (node_type-requires-clause-operands c)

pub returns-in_err-dtype : goal.returns-in_err-dtype
returns-in_err-dtype c =
    let t = c.args.scope.now in
    let l = c.loop-node in
    let f = c.in_err-dtype.field-0.0 in
    let here = node_here (λ e. e.now) c.as_slice-node-items.result.now l.node-index c.node-item.result c.loop-node-test.true c.node-item.is in
    let refused = subst (λ e. Refuses (typed_of t e) f) c.expr.ensures c.in_err-dtype.ensures in
    let p = err_from_is_err_and c.from_residual-in_err-dtype.result c.from_residual-in_err-dtype.ensures.1 in
    rw (p.1, p.2)
    (fails (IsTyped t) l.types.items c.args.expr.now here l.invariant (HasType t) (λ e. Refuses (typed_of t e) f) (refused_by t f) (λ e d h. (type_view d, h)) refused)

pub loop-node-preserved : goal.loop-node-preserved
loop-node-preserved c =
    let t = c.args.scope.now in
    let n = c.node-item.result.now in
    let l = c.loop-node in
    let here = node_here (λ e. e.now) c.as_slice-node-items.result.now l.node-index c.node-item.result c.loop-node-test.true c.node-item.is in
    let long = enough (IsTyped t) l.types.items c.args.expr.now here l.invariant in
    let place : (c.len.result - c.children_count.result) + length (children_of n) ≡ length l.types.items = omega (arith, long, c.len.ensures, c.children_count.ensures) in
    goes_on (IsTyped t) l.types.items c.args.expr.now here l.invariant (c.len.result - c.children_count.result) c.split_off.new.self.items c.push.new.self.items c.in_ok-dtype.dtype
    place c.in_ok-operands.ensures.items c.in_ok-push.ensures.items (ap (typed_of t) (sym c.expr.ensures) ∙ c.in_ok-dtype.ensures)

pub unreachable-requires : goal.unreachable-requires
unreachable-requires c =
    let none = none_left (λ e. e.now) c.as_slice-node-items.result.now c.loop-node.node-index c.loop-node-test.false in
    omega (arith, one_made (IsTyped c.args.scope.now) c.loop-node.types.items c.args.expr.now none c.loop-node.invariant, c.in-None.ensures.len, c.in-None.ensures.cases)

pub returns : goal.returns
returns c =
    let none = none_left (λ e. e.now) c.as_slice-node-items.result.now c.loop-node.node-index c.loop-node-test.false in
    ended (IsTyped c.args.scope.now) c.loop-node.types.items c.args.expr.now none c.loop-node.invariant c.pop.new.self.items c.in-Some.dtype c.in-Some.ensures.items
