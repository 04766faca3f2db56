use Rattle.vx_wire_bytes.specs.WireViews.{tree_view}
use Rattle.vx_query.proofs.ByteLemmas.{has_bytes}
use Rattle.vx_query.proofs.queries.tree_bytes.Goals as goal

pub returns-in-Ok-clause-written : goal.returns-in-Ok-clause-written
returns-in-Ok-clause-written c =
    has_bytes c.args.expr.now (tree_view c.args.tree.now) c.in-Ok.bytes.items c.requires.tree c.requires.shallow c.requires.short c.in-Ok.ensures.written
