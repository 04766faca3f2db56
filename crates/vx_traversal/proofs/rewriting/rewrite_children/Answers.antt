use Rattle.std.proofs.Common.{rules, ◌≡◌, subst, Ok, Err}
use Rattle.vx_traversal.specs.declared.order.TraversalOrder.TheVariants.{Continue}
use Rattle.vx_traversal.specs.Rewrites.{FromOrder, Rewrites}
use Rattle.vx_traversal.specs.RewriteFrames.{NextFits, StepsOn}
use Rattle.vx_traversal.proofs.RewriteFrameLemmas.{ends-errs, first-fits, first-frame}
use Rattle.vx_traversal.proofs.rewriting.rewrite_children.Goals as goal

pub loop-init : goal.loop-init
loop-init g c = record {
  again = c.requires;
  fits = first-fits g.N.Node.children c.new-outer.result.items c.frame_of-frame.result c.new-outer.ensures.items c.frame_of-frame.ensures.values;
  left = λ r t. first-frame g.N.Node.children g.N.Node.is_with g.R.Rewriting.goes_down g.R.Rewriting.goes_up g.N.Node.height c.args.given c.new-outer.result.items c.frame_of-frame.result c.args.rewriter.now r t c.new-outer.ensures.items c.frame_of-frame.ensures.node c.frame_of-frame.ensures.before c.frame_of-frame.ensures.values;
}

pub returns-in_err-answer-clause-rewrites : goal.returns-in_err-answer-clause-rewrites
returns-in_err-answer-clause-rewrites g c =
    let is : c.from_residual.result ≡ Err c.in_err-answer.field-0.0 = search rules in
    ends-errs g.N.Node.children g.N.Node.is_with g.R.Rewriting.goes_down g.R.Rewriting.goes_up g.N.Node.height c.loop.outer.items c.rewrite_step.new.outer.items c.loop.frame c.loop.rewriter c.in_err-answer.field-0.0 c.from_residual.result c.rewrite_step.new.rewriter
    (λ q. FromOrder g.N.Node.children g.N.Node.is_with g.R.Rewriting.goes_down g.R.Rewriting.goes_up (Rewrites g.N.Node.children g.N.Node.is_with g.R.Rewriting.goes_down g.R.Rewriting.goes_up g.N.Node.height) Continue c.args.given c.args.rewriter.now q c.rewrite_step.new.rewriter)
    is c.in_err-answer.ensures.steps (c.loop.invariant.left (Err c.in_err-answer.field-0.0) c.rewrite_step.new.rewriter)

pub loop-preserved : goal.loop-preserved
loop-preserved g c = record {
  again = c.rewrite_step.ensures.again;
  fits = subst (NextFits g.N.Node.children c.rewrite_step.new.outer.items) c.in-Goes.is c.in_ok-answer.ensures.fit;
  left = λ r t rest.
      c.loop.invariant.left r t
      (subst (λ next. StepsOn g.N.Node.children g.N.Node.is_with g.R.Rewriting.goes_down g.R.Rewriting.goes_up g.N.Node.height c.loop.outer.items c.loop.frame c.loop.rewriter (Ok next) c.rewrite_step.new.outer.items c.rewrite_step.new.rewriter) c.in-Goes.is c.in_ok-answer.ensures.steps r t rest);
}
