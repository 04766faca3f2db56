use Rattle.std.proofs.Common.{rules, arith, ◌≡◌, ◌≤◌, length, Ok, Err, []}
use Rattle.vx_traversal.proofs.RewriteFrameLemmas.{end-ends, end-fails, end-goes, popped-fits}
use Rattle.vx_traversal.proofs.rewriting.finish_node.Goals as goal

pub returns-in_err-answer-clause-steps : goal.returns-in_err-answer-clause-steps
returns-in_err-answer-clause-steps g c =
    let is : c.from_residual.result ≡ Err c.in_err-answer.field-0.0 = search rules in
    let past : length (g.N.Node.children c.args.frame.node) ≤ length c.args.frame.values.items = omega (arith, c.requires.past) in
    end-fails g.N.Node.children g.N.Node.is_with g.R.Rewriting.goes_down g.R.Rewriting.goes_up g.N.Node.height c.args.outer.now.items c.args.frame c.args.rewriter.now past c.args.outer.now.items c.in_err-answer.field-0.0 c.from_residual.result c.rewrite_end.new.rewriter is c.in_err-answer.ensures.rewrites

pub returns-in-None-clause-steps : goal.returns-in-None-clause-steps
returns-in-None-clause-steps g c =
    let past : length (g.N.Node.children c.args.frame.node) ≤ length c.args.frame.values.items = omega (arith, c.requires.past) in
    let none : c.args.outer.now.items ≡ [] = search rules in
    end-ends g.N.Node.children g.N.Node.is_with g.R.Rewriting.goes_down g.R.Rewriting.goes_up g.N.Node.height c.args.outer.now.items c.args.frame c.args.rewriter.now past (Ok c.in_ok-answer.answer) c.rewrite_end.new.rewriter none c.in_ok-answer.ensures.rewrites

pub returns-in_ok-with_value-in-Some-clause-steps : goal.returns-in_ok-with_value-in-Some-clause-steps
returns-in_ok-with_value-in-Some-clause-steps g c =
    let past : length (g.N.Node.children c.args.frame.node) ≤ length c.args.frame.values.items = omega (arith, c.requires.past) in
    end-goes g.N.Node.children g.N.Node.is_with g.R.Rewriting.goes_down g.R.Rewriting.goes_up g.N.Node.height c.args.outer.now.items c.args.frame c.args.rewriter.now past c.in_ok-answer.answer c.rewrite_end.new.rewriter c.in-Some.above c.in_ok-with_value-in-Some.field-0 c.pop.new.self.items c.in-Some.ensures.items
    c.in_ok-with_value-in-Some.ensures c.in_ok-answer.ensures.rewrites

pub returns-in_ok-with_value-in-Some-clause-fit : goal.returns-in_ok-with_value-in-Some-clause-fit
returns-in_ok-with_value-in-Some-clause-fit g c =
    popped-fits g.N.Node.children c.args.outer.now.items c.pop.new.self.items c.args.frame c.in-Some.above c.in_ok-with_value-in-Some.field-0 c.in_ok-answer.answer c.requires.fits c.in-Some.ensures.items c.in_ok-with_value-in-Some.ensures
