use Rattle.std.proofs.Common.{arith, sym, ◌∙◌, ◌≡◌, get_or, true, false}
use Rattle.vx_traversal.specs.Paths.{compared_levels, reaches}
use Rattle.vx_traversal.proofs.DepthLemmas.{is_as_deep-both, is_as_deep-end, is_as_deep-first, is_as_deep-second}
use Rattle.vx_traversal.proofs.paths.is_as_deep.Goals as goal

pub returns-then-not-reaches : goal.returns-then-not-reaches
returns-then-not-reaches g c =
    let is : reaches g.H.Target.Node.children (get_or compared_levels c.loop-levels.levels-index 0) (g.H.NodeRef.target c.args.first) ≡ false = sym c.reaches.ensures ∙ c.if-not-reaches.true in
    sym (sym c.loop-levels.invariant ∙ is_as_deep-first g.H.Target.Node.children compared_levels c.loop-levels.levels-index (g.H.NodeRef.target c.args.first) (g.H.NodeRef.target c.args.second) (omega arith) is)

pub returns-then-not-reaches-2 : goal.returns-then-not-reaches-2
returns-then-not-reaches-2 g c =
    let is : reaches g.H.Target.Node.children (get_or compared_levels c.loop-levels.levels-index 0) (g.H.NodeRef.target c.args.first) ≡ true = sym c.reaches.ensures ∙ c.if-not-reaches.false in
    let not : reaches g.H.Target.Node.children (get_or compared_levels c.loop-levels.levels-index 0) (g.H.NodeRef.target c.args.second) ≡ false = sym c.reaches-in-loop-levels.ensures ∙ c.if-not-reaches-2.true in
    sym (sym c.loop-levels.invariant ∙ is_as_deep-second g.H.Target.Node.children compared_levels c.loop-levels.levels-index (g.H.NodeRef.target c.args.first) (g.H.NodeRef.target c.args.second) (omega arith) is not)

pub loop-levels-preserved : goal.loop-levels-preserved
loop-levels-preserved g c =
    let is : reaches g.H.Target.Node.children (get_or compared_levels c.loop-levels.levels-index 0) (g.H.NodeRef.target c.args.first) ≡ true = sym c.reaches.ensures ∙ c.if-not-reaches.false in
    let too : reaches g.H.Target.Node.children (get_or compared_levels c.loop-levels.levels-index 0) (g.H.NodeRef.target c.args.second) ≡ true = sym c.reaches-in-loop-levels.ensures ∙ c.if-not-reaches-2.false in
    is_as_deep-both g.H.Target.Node.children compared_levels c.loop-levels.levels-index (g.H.NodeRef.target c.args.first) (g.H.NodeRef.target c.args.second) (omega arith) is too ∙ c.loop-levels.invariant

pub returns : goal.returns
returns g c = sym (sym c.loop-levels.invariant ∙ is_as_deep-end g.H.Target.Node.children compared_levels c.loop-levels.levels-index (g.H.NodeRef.target c.args.first) (g.H.NodeRef.target c.args.second) (omega arith))
