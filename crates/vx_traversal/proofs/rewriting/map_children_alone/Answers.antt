use Rattle.std.proofs.Common.{◌≡◌, refl, rules, arith, Ok, Err, ◌≤◌, length, length-append}
use Rattle.vx_traversal.proofs.RewriteLemmas.{MapsChildren-error, MapsChildren-rebuilt, MapsInTurn-kept, MapsInTurn-error, MapsInTurn-next, MapsInTurn-end}
use Rattle.vx_traversal.proofs.rewriting.map_children_alone.Goals as goal

pub loop-i-preserved-in-Stop : goal.loop-i-preserved-in-Stop
loop-i-preserved-in-Stop g c = record {
  again = c.loop-i.invariant.again;
  as_many = simp (c.in_ok-push.ensures.items, length-append) (omega (arith, c.loop-i.invariant.as_many));
  so_far = λ r u rest. c.loop-i.invariant.so_far r u (MapsInTurn-kept g.R.Rewriting.goes_up (g.N.Node.children c.args.node) c.loop-i.i c.in_ok-child.child c.in_ok-child.ensures.child c.loop-i.values.items c.loop-i.order c.loop-i.changed _ c.loop-i.rewriter r u c.in-Stop.is c.in_ok-push.ensures.items rest);
}

pub returns-in_err-mapped-clause-rewrites : goal.returns-in_err-mapped-clause-rewrites
returns-in_err-mapped-clause-rewrites g c =
    let is : c.from_residual-in_err-mapped.result ≡ Err c.in_err-mapped.field-0.0 = search rules in
    MapsChildren-error g.N.Node.children g.N.Node.is_with g.R.Rewriting.goes_up c.args.rewriter.now c.args.node c.from_residual-in_err-mapped.result c.go_up.new.self c.in_err-mapped.field-0.0 is
    (c.loop-i.invariant.so_far _ _ (MapsInTurn-error g.R.Rewriting.goes_up (g.N.Node.children c.args.node) c.loop-i.i c.in_ok-child.child c.in_ok-child.ensures.child c.loop-i.values.items c.loop-i.order c.loop-i.changed c.in_default.not-Stop c.loop-i.rewriter (Err c.in_err-mapped.field-0.0) c.go_up.new.self c.in_err-mapped.ensures.step c.in_err-mapped.field-0.0 refl))

pub loop-i-preserved : goal.loop-i-preserved
loop-i-preserved g c = record {
  again = c.go_up.ensures.again;
  as_many = simp (c.in_ok-push-2.ensures.items, length-append) (omega (arith, c.loop-i.invariant.as_many));
  so_far = λ r u rest. c.loop-i.invariant.so_far r u (MapsInTurn-next g.R.Rewriting.goes_up (g.N.Node.children c.args.node) c.loop-i.i c.in_ok-child.child c.in_ok-child.ensures.child c.loop-i.values.items c.loop-i.order c.loop-i.changed c.in_default.not-Stop c.loop-i.rewriter (Ok c.in_ok-mapped.mapped) c.go_up.new.self c.in_ok-mapped.ensures.step c.in_ok-mapped.mapped _ _ refl c.in_ok-push-2.ensures.items refl r u rest);
}

pub returns-clause-rewrites : goal.returns-clause-rewrites
returns-clause-rewrites g c =
    let past : length (g.N.Node.children c.args.node) ≤ c.loop-i.i = omega (arith, c.loop-i-test.false, c.children_count-i-end.ensures) in
    MapsChildren-rebuilt g.N.Node.children g.N.Node.is_with g.R.Rewriting.goes_up c.args.rewriter.now c.args.node c.rebuild.result c.loop-i.rewriter (record { value = c.loop-i.values.items; order = c.loop-i.order; changed = c.loop-i.changed }) (c.loop-i.invariant.so_far _ _ (MapsInTurn-end g.R.Rewriting.goes_up (g.N.Node.children c.args.node) c.loop-i.i _ c.loop-i.rewriter past)) c.rebuild.ensures
