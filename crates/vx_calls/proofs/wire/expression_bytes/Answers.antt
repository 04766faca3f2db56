use Rattle.vx_calls.proofs.WireLemmas.{is_shallow}
use Rattle.vx_calls.proofs.wire.expression_bytes.Goals as goal

pub tree_bytes-requires-clause-shallow : goal.tree_bytes-requires-clause-shallow
tree_bytes-requires-clause-shallow c = is_shallow c.args.expr.now c.in-Ok.ensures.spelled
