use Rattle.std.proofs.lemmas.Result.{err_from_is_err_and}
use Rattle.std.proofs.lemmas.Slice.Zip.{AllZip-long}
use Rattle.vx_dtype.specs.TypeViews.{type_view}
use Rattle.vx_expr.specs.Nodes.{node_tree}
use Rattle.vx_typing.specs.OperandTypes.{IsLooselyTyped, asked_operands}
use Rattle.vx_typing.proofs.LooseNodes.{loosely_refused}
use Rattle.vx_typing.proofs.loose_typing.node_answer.Goals as goal

pub returns-in_err-operands : goal.returns-in_err-operands
returns-in_err-operands c =
    let t = type_view c.args.scope.now in
    let p = err_from_is_err_and c.from_residual.result c.from_residual.ensures.1 in
    rw (p.1, p.2) (loosely_refused t c.in_err-operands.field-0.0 (node_tree c.args.node.now) (c.in_err-operands.ensures t c.requires))

pub loose_node_type-requires-clause-lengths : goal.loose_node_type-requires-clause-lengths
loose_node_type-requires-clause-lengths c =
    let t = type_view c.args.scope.now in
    AllZip-long (IsLooselyTyped t) (asked_operands (node_tree c.args.node.now)) c.in_ok-operands.operands.items (c.in_ok-operands.ensures t c.requires)
