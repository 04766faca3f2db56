use Rattle.vx_traversal.specs.declared.order.TraversalOrder.TheVariants.{Continue}
use Rattle.vx_traversal.specs.Rewrites.{FromOrder, Rewrites}
use Rattle.vx_traversal.specs.RewriteFrames.{FrameLeft, FramesFit, FramesLeft}
use Rattle.vx_traversal.proofs.rewriting.rewrite_children.Given as goal

-- what is left of the frames was left of the node
abbrev pub invariant-loop : goal.invariant-loop
invariant-loop g l = record {
  again : g.R.Rewriting.ready l.rewriter;
  fits : FramesFit g.N.Node.children l.outer.items l.frame;
  left : (r t : _) → FramesLeft g.N.Node.children g.N.Node.is_with g.R.Rewriting.goes_down g.R.Rewriting.goes_up g.N.Node.height l.outer.items (FrameLeft g.N.Node.children g.N.Node.is_with g.R.Rewriting.goes_down g.R.Rewriting.goes_up g.N.Node.height l.frame l.rewriter) r t → FromOrder g.N.Node.children g.N.Node.is_with g.R.Rewriting.goes_down g.R.Rewriting.goes_up (Rewrites g.N.Node.children g.N.Node.is_with g.R.Rewriting.goes_down g.R.Rewriting.goes_up g.N.Node.height) Continue l.fn.given l.fn.rewriter r t;
}
