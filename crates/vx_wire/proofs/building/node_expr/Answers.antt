use Rattle.vx_wire.specs.Registries.{registered}
use Rattle.vx_wire.proofs.WireLemmas.{kind_built, kind_unbuilt, unknown_kind}
use Rattle.vx_wire.proofs.building.node_expr.Goals as goal

pub returns-in_default-clause-refused : goal.returns-in_default-clause-refused
returns-in_default-clause-refused c =
    unknown_kind (registered c.args.registry.now) c.args.node.now c.args.children.items c.as_str.result.now c.requires c.as_str.ensures c.in_default.ensures

pub returns-clause-built : goal.returns-clause-built
returns-clause-built c =
    kind_built (registered c.args.registry.now) c.args.node.now c.args.children.items c.as_str.result.now c.deref.result.now c.in-Some.kind c.build.result
    c.requires c.as_str.ensures c.in-Some.ensures c.deref.ensures.value c.build.ensures.built

pub returns-clause-refused : goal.returns-clause-refused
returns-clause-refused c =
    kind_unbuilt (registered c.args.registry.now) c.args.node.now c.args.children.items c.as_str.result.now c.deref.result.now c.in-Some.kind c.build.result
    c.requires c.as_str.ensures c.in-Some.ensures c.deref.ensures.value c.build.ensures.refused
