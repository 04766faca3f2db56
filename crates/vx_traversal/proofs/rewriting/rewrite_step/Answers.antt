use Rattle.std.proofs.Common.{rules, arith, ◌≤◌, length}
use Rattle.vx_traversal.proofs.RewriteFrameLemmas.{no-more}
use Rattle.vx_traversal.proofs.rewriting.rewrite_step.Goals as goal

pub finish_node-requires-clause-past : goal.finish_node-requires-clause-past
finish_node-requires-clause-past g c =
    let most : length c.args.frame.values.items ≤ length (g.N.Node.children c.args.frame.node) = no-more g.N.Node.children c.args.outer.now.items c.args.frame c.requires.fits in
    let past : length (g.N.Node.children c.args.frame.node) ≤ length c.args.frame.values.items = search (rules, arith) in
    omega (arith, most, past)
