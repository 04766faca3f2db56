use Rattle.std.proofs.Common.{◌≡◌, map, drop}
use Rattle.std.specs.List.{list_all}
use Rattle.vx_expr.specs.PostOrders.{post_order}
use Rattle.vx_partition.specs.Visits.{has_none}
use Rattle.vx_partition.proofs.annotating.is_touched.Given as goal

-- what is left to look at
abbrev pub invariant-loop-node : goal.invariant-loop-node
invariant-loop-node g l =
    list_all (has_none (g.F.AnnotationFn.annotated l.annotate)) (post_order l.expr)
    ≡ list_all (has_none (g.F.AnnotationFn.annotated l.annotate)) (map (λ e. e.now) (drop l.node-index l.node-items))
