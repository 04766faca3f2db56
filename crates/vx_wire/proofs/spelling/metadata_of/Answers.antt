use Rattle.std.proofs.Common.{sym, ap, ◌∙◌}
use Rattle.vx_expr.specs.Nodes.{node_tree}
use Rattle.vx_wire.proofs.SerialLemmas.{pack_written}
use Rattle.vx_wire.proofs.spelling.metadata_of.Goals as goal

pub returns-in-Pack-clause-ok : goal.returns-in-Pack-clause-ok
returns-in-Pack-clause-ok c =
    pack_written (λ bytes. bytes.items) c.in-Pack.node c.names.result.now c.nullability-in-Pack.result c.args.expr.now c.named_bytes.result
    (sym c.expr.ensures ∙ ap node_tree c.in-Pack.is) c.names.ensures.names c.nullability-in-Pack.ensures c.names.ensures.as_many c.named_bytes.ensures.ok
