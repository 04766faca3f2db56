use Rattle.std.proofs.Common.{◌≡◌, map, drop}
use Rattle.vx_dtype.specs.TypeViews.{type_view}
use Rattle.vx_expr.specs.Trees.{children_of}
use Rattle.vx_transform.specs.CodeViews.{giving_view}
use Rattle.vx_transform.specs.Rebuilds.{each}
use Rattle.vx_laws_removing.specs.Walking.{giving_by_head}
use Rattle.vx_transform.proofs.RebuildLemmas.{before}
use Rattle.vx_transform.proofs.walking.givings_by_head.Given as goal

-- what was collected, and what is left
abbrev pub invariant-loop-i : goal.invariant-loop-i
invariant-loop-i l =
    each (giving_by_head (type_view l.scope)) (children_of l.merge) ≡ before (map giving_view l.made.items) (each (giving_by_head (type_view l.scope)) (drop l.i (children_of l.merge)))
