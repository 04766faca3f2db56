use Rattle.std.proofs.Common.{◌≡◌, ◌-◌, ◌+◌, ap, ◌∙◌, sym, arith, subst, length, map, Ok, Err}
use Rattle.std.proofs.lemmas.Result.{err_from_is_err_and}
use Rattle.std.proofs.lemmas.Slice.Zip.{AllZip-long}
use Rattle.vx_expr.specs.Trees.{Tree, children_of}
use Rattle.vx_eval.specs.Scopes.{scope_rows, scope_slots}
use Rattle.vx_eval.specs.Steps.{AreComputed, IsComputed, Fails, NodeGives}
use Rattle.vx_typing.proofs.PostOrderValues.{begun, ended, one_made, enough, operands_taken, goes_on, fails, node_here, none_left}
use Rattle.vx_eval.proofs.Computed.{meant_of, computed, fails_among}
use Rattle.vx_eval.proofs.columns.column_of.Goals as goal

pub loop-node-init : goal.loop-node-init
loop-node-init c =
    let s = c.args.scope.now in
    begun (IsComputed (scope_rows s).ty (scope_slots s) (scope_rows s).rows) c.args.expr.now (map (λ e. e.now) c.as_slice-node-items.result.now) c.new-columns.result.items
    (ap (map (λ e. e.now)) c.as_slice-node-items.ensures.value ∙ c.in_ok-nodes.ensures) c.new-columns.ensures.items

pub overflow_sub-len : goal.overflow_sub-len
overflow_sub-len c =
    let s = c.args.scope.now in
    let here = node_here (λ e. e.now) c.as_slice-node-items.result.now c.loop-node.node-index c.node-item.result c.loop-node-test.true c.node-item.is in
    let long = enough (IsComputed (scope_rows s).ty (scope_slots s) (scope_rows s).rows) c.loop-node.columns.items c.args.expr.now here c.loop-node.invariant in
    omega (arith, long, c.len.ensures, c.children_count.ensures)

-- the operands' columns, which the code takes from the end
taken : (c : goal.After-expr) → let s = c.args.scope.now in
    AreComputed (scope_rows s).ty (scope_slots s) (scope_rows s).rows (children_of c.node-item.result.now) c.in_ok-operands.operands.items
taken c =
    let s = c.args.scope.now in
    let n = c.node-item.result.now in
    let l = c.loop-node in
    let here = node_here (λ e. e.now) c.as_slice-node-items.result.now l.node-index c.node-item.result c.loop-node-test.true c.node-item.is in
    let long = enough (IsComputed (scope_rows s).ty (scope_slots s) (scope_rows s).rows) l.columns.items c.args.expr.now here l.invariant in
    let place : (c.len.result - c.children_count.result) + length (children_of n) ≡ length l.columns.items = omega (arith, long, c.len.ensures, c.children_count.ensures) in
    operands_taken (IsComputed (scope_rows s).ty (scope_slots s) (scope_rows s).rows) l.columns.items c.args.expr.now here l.invariant (c.len.result - c.children_count.result)
    c.in_ok-operands.operands.items place c.in_ok-operands.ensures.tail

pub node_column-requires-clause-lengths : goal.node_column-requires-clause-lengths
node_column-requires-clause-lengths c =
    let s = c.args.scope.now in
    AllZip-long (IsComputed (scope_rows s).ty (scope_slots s) (scope_rows s).rows) (children_of c.node-item.result.now) c.in_ok-operands.operands.items (taken c)
    ∙ ap (λ e. length (children_of e)) (sym c.expr.ensures)

pub node_column-requires-clause-operands : goal.node_column-requires-clause-operands
node_column-requires-clause-operands c =
    let s = c.args.scope.now in
    rw c.expr.ensures (meant_of (scope_rows s).ty (scope_slots s) (scope_rows s).rows (children_of c.node-item.result.now) c.in_ok-operands.operands.items (taken c))

pub returns-in_err-column : goal.returns-in_err-column
returns-in_err-column c =
    let s = c.args.scope.now in
    let n = c.node-item.result.now in
    let l = c.loop-node in
    let f = c.in_err-column.field-0.0 in
    let computes = IsComputed (scope_rows s).ty (scope_slots s) (scope_rows s).rows in
    let here = node_here (λ e. e.now) c.as_slice-node-items.result.now l.node-index c.node-item.result c.loop-node-test.true c.node-item.is in
    let long = enough computes l.columns.items c.args.expr.now here l.invariant in
    let place : (c.len.result - c.children_count.result) + length (children_of n) ≡ length l.columns.items = omega (arith, long, c.len.ensures, c.children_count.ensures) in
    let known = operands_taken computes l.columns.items c.args.expr.now here l.invariant (c.len.result - c.children_count.result) c.in_ok-operands.operands.items place c.in_ok-operands.ensures.tail in
    let gives = subst (λ (e : Tree). NodeGives (scope_rows s).ty (scope_slots s) (scope_rows s).rows e (Err f)) c.expr.ensures c.in_err-column.ensures in
    let failed = computed (scope_rows s).ty (scope_slots s) (scope_rows s).rows n c.in_ok-operands.operands.items known (Err f) gives in
    let p = err_from_is_err_and c.from_residual-in_err-column.result c.from_residual-in_err-column.ensures.1 in
    rw (p.1, p.2)
    (fails computes l.columns.items c.args.expr.now here l.invariant (λ e. Unit {0}) (λ e. Fails (scope_rows s).ty (scope_slots s) (scope_rows s).rows e f)
    (λ e before d after are fine. fails_among (scope_rows s).ty (scope_slots s) (scope_rows s).rows f e before d after are) (λ e x h. tt) failed)

pub loop-node-preserved : goal.loop-node-preserved
loop-node-preserved c =
    let s = c.args.scope.now in
    let n = c.node-item.result.now in
    let l = c.loop-node in
    let computes = IsComputed (scope_rows s).ty (scope_slots s) (scope_rows s).rows in
    let here = node_here (λ e. e.now) c.as_slice-node-items.result.now l.node-index c.node-item.result c.loop-node-test.true c.node-item.is in
    let long = enough computes l.columns.items c.args.expr.now here l.invariant in
    let place : (c.len.result - c.children_count.result) + length (children_of n) ≡ length l.columns.items = omega (arith, long, c.len.ensures, c.children_count.ensures) in
    let known = operands_taken computes l.columns.items c.args.expr.now here l.invariant (c.len.result - c.children_count.result) c.in_ok-operands.operands.items place c.in_ok-operands.ensures.tail in
    let gives = subst (λ (e : Tree). NodeGives (scope_rows s).ty (scope_slots s) (scope_rows s).rows e (Ok c.in_ok-column.column)) c.expr.ensures c.in_ok-column.ensures in
    let value = computed (scope_rows s).ty (scope_slots s) (scope_rows s).rows n c.in_ok-operands.operands.items known (Ok c.in_ok-column.column) gives in
    goes_on computes l.columns.items c.args.expr.now here l.invariant (c.len.result - c.children_count.result) c.split_off.new.self.items c.push.new.self.items c.in_ok-column.column
    place c.in_ok-operands.ensures.items c.in_ok-push.ensures.items value

pub unreachable-requires : goal.unreachable-requires
unreachable-requires c =
    let s = c.args.scope.now in
    let none = none_left (λ e. e.now) c.as_slice-node-items.result.now c.loop-node.node-index c.loop-node-test.false in
    let one = one_made (IsComputed (scope_rows s).ty (scope_slots s) (scope_rows s).rows) c.loop-node.columns.items c.args.expr.now none c.loop-node.invariant in
    omega (arith, one, c.in-None.ensures.len, c.in-None.ensures.cases)

pub returns : goal.returns
returns c =
    let s = c.args.scope.now in
    let none = none_left (λ e. e.now) c.as_slice-node-items.result.now c.loop-node.node-index c.loop-node-test.false in
    ended (IsComputed (scope_rows s).ty (scope_slots s) (scope_rows s).rows) c.loop-node.columns.items c.args.expr.now none c.loop-node.invariant
    c.pop.new.self.items c.in-Some.column c.in-Some.ensures.items
