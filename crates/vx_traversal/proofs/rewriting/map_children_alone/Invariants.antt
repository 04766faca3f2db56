use Rattle.std.proofs.Common.{◌≡◌, length, drop}
use Rattle.vx_traversal.specs.Rewrites.{MapsInTurn, none_yet}
use Rattle.vx_traversal.proofs.rewriting.map_children_alone.Given as goal

-- what the children from i on give, after the values so far, is what all the children give
abbrev pub invariant-loop-i : goal.invariant-loop-i
invariant-loop-i g l = record {
  again : g.R.Rewriting.ready l.rewriter;
  as_many : length l.values.items ≡ l.i;
  so_far : (r t : _) → MapsInTurn g.R.Rewriting.goes_up (record { value = l.values.items; order = l.order; changed = l.changed }) l.rewriter (drop l.i (g.N.Node.children l.node)) r t
      → MapsInTurn g.R.Rewriting.goes_up none_yet l.fn.rewriter (g.N.Node.children l.node) r t;
}
