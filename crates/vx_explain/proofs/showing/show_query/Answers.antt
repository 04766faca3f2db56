use Rattle.vx_wire.specs.Registries.{registered}
use Rattle.vx_explain.proofs.ShownLemmas.{spelled_is_writable}
use Rattle.vx_explain.proofs.showing.show_query.Goals as goal

pub query_line-requires : goal.query_line-requires
query_line-requires c = spelled_is_writable (registered c.args.registry.now) c.args.bytes.now c.in_ok-expr.expr c.in_ok-expr.ensures
