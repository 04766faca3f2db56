use Rattle.vx_query.proofs.ByteLemmas.{is_shallow, is_short}
use Rattle.vx_query.proofs.queries.expression_bytes.Goals as goal

pub tree_bytes-requires-clause-shallow : goal.tree_bytes-requires-clause-shallow
tree_bytes-requires-clause-shallow c = is_shallow c.args.expr.now c.in-Ok.ensures.spelled

pub tree_bytes-requires-clause-short : goal.tree_bytes-requires-clause-short
tree_bytes-requires-clause-short c = is_short c.args.expr.now c.in-Ok.ensures.spelled
