use Rattle.std.proofs.Common.{rules, arith, sym, ap, ◌∙◌, ◌≡◌, ◌-◌, ◌≤◌, length, true, false}
use Rattle.std.specs.List.{list_any}
use Rattle.vx_traversal.proofs.Steps.{drop-past}
use Rattle.vx_traversal.proofs.DepthLemmas.{list_any-here, list_any-past, reaches-more, reaches-zero}
use Rattle.vx_traversal.specs.Paths.{reaches}
use Rattle.vx_traversal.proofs.paths.+reaches.Goals as goal

pub returns-then-levels-eq0 : goal.returns-then-levels-eq0
returns-then-levels-eq0 g t c = sym (reaches-zero g.H.Target.Node.children c.args.levels (g.H.NodeRef.target c.args.node) (omega arith))

pub returns-then-reaches : goal.returns-then-reaches
returns-then-reaches g t c =
    let is : reaches g.H.Target.Node.children (c.args.levels - 1) (g.H.NodeRef.target c.child.result) ≡ true = search rules in
    sym (reaches-more g.H.Target.Node.children c.args.levels (g.H.NodeRef.target c.args.node) (omega arith) ∙ (sym c.loop-i.invariant ∙ list_any-here (reaches g.H.Target.Node.children (c.args.levels - 1)) (g.H.Target.Node.children (g.H.NodeRef.target c.args.node)) c.loop-i.i (g.H.NodeRef.target c.child.result) c.child.ensures is))

pub loop-i-preserved : goal.loop-i-preserved
loop-i-preserved g t c =
    let is : reaches g.H.Target.Node.children (c.args.levels - 1) (g.H.NodeRef.target c.child.result) ≡ false = search rules in
    sym (list_any-past (reaches g.H.Target.Node.children (c.args.levels - 1)) (g.H.Target.Node.children (g.H.NodeRef.target c.args.node)) c.loop-i.i (g.H.NodeRef.target c.child.result) c.child.ensures is) ∙ c.loop-i.invariant

pub returns : goal.returns
returns g t c =
    let past : length (g.H.Target.Node.children (g.H.NodeRef.target c.args.node)) ≤ c.loop-i.i = omega (arith, c.count-i-end.ensures) in
    sym (reaches-more g.H.Target.Node.children c.args.levels (g.H.NodeRef.target c.args.node) (omega arith) ∙ (sym c.loop-i.invariant ∙ ap (list_any (reaches g.H.Target.Node.children (c.args.levels - 1))) (drop-past (g.H.Target.Node.children (g.H.NodeRef.target c.args.node)) c.loop-i.i past)))
