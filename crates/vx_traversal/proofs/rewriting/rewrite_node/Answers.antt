use Rattle.vx_traversal.specs.declared.order.TraversalOrder.TheVariants.{Continue}
use Rattle.vx_traversal.specs.Rewrites.{FromOrder, Rewrites}
use Rattle.vx_traversal.proofs.RewriteLemmas.{unless-map}
use Rattle.vx_traversal.proofs.RewriteFrameLemmas.{after-down}
use Rattle.vx_traversal.proofs.rewriting.rewrite_node.Goals as goal

pub returns-in-Continue-clause-rewrites : goal.returns-in-Continue-clause-rewrites
returns-in-Continue-clause-rewrites g c =
    unless-map c.rewrite_children.result (FromOrder g.N.Node.children g.N.Node.is_with g.R.Rewriting.goes_down g.R.Rewriting.goes_up (Rewrites g.N.Node.children g.N.Node.is_with g.R.Rewriting.goes_down g.R.Rewriting.goes_up g.N.Node.height) Continue c.in_ok-given.given c.go_down.new.self c.rewrite_children.result c.rewrite_children.new.rewriter)
    (Rewrites g.N.Node.children g.N.Node.is_with g.R.Rewriting.goes_down g.R.Rewriting.goes_up g.N.Node.height c.args.rewriter.now c.args.node c.rewrite_children.result c.rewrite_children.new.rewriter)
    (after-down g.N.Node.children g.N.Node.is_with g.R.Rewriting.goes_down g.R.Rewriting.goes_up g.N.Node.height g.met.N.Node.child_is_lower c.args.rewriter.now c.args.node c.in_ok-given.given c.go_down.new.self c.rewrite_children.result c.rewrite_children.new.rewriter c.in_ok-given.ensures.step c.in-Continue.is c.in_ok-given.ensures.no_higher)
    c.rewrite_children.ensures.rewrites
