use Rattle.std.proofs.Common.{rules, arith, refl, subst, ◌≡◌, ◌<◌, ◌+◌, ◌-◌, length, drop, Ok, Err}
use Rattle.vx_traversal.specs.declared.order.TraversalOrder.TheVariants.{Continue, Stop}
use Rattle.vx_traversal.specs.Visits.{InTurn, Visits}
use Rattle.vx_traversal.specs.FirstVisits.{TakesFirst}
use Rattle.vx_traversal.proofs.Steps.{drop-next, InTurn-error, InTurn-stop, InTurn-next, ok-is}
use Rattle.vx_traversal.proofs.FirstVisitLemmas.{at-end, at-error, contains-at, no-nodes, then-last, through}
use Rattle.vx_traversal.proofs.walking.+down.Goals as goal

pub walk_down-returns-then-count-eq0-clause-visits : goal.walk_down-returns-then-count-eq0-clause-visits
walk_down-returns-then-count-eq0-clause-visits g t c =
    let none : length (g.H.Target.Node.children (g.H.NodeRef.target c.loop-count.low)) ≡ 0 = search (rules, arith) in
    c.loop-count.invariant.left (Ok Continue) c.go_down.new.self
    (through g.H.Target.Node.children g.W.Walker.goes_down g.W.Walker.goes_up g.H.Target.Node.height c.requires.no_up g.met.H.Target.Node.child_is_lower c.loop-count.walker (g.H.NodeRef.target c.loop-count.low) c.go_down.result c.go_down.new.self (Ok Continue) c.go_down.new.self c.go_down.ensures.step (ok-is c.go_down.result _ _ c.in_ok-go_down.was c.in-Continue.is) (no-nodes (Visits g.H.Target.Node.children g.W.Walker.goes_down g.W.Walker.goes_up g.H.Target.Node.height) (g.H.Target.Node.children (g.H.NodeRef.target c.loop-count.low)) Continue c.go_down.new.self none))

pub walk_down-returns-in_err-walk_down_first-clause-visits : goal.walk_down-returns-in_err-walk_down_first-clause-visits
walk_down-returns-in_err-walk_down_first-clause-visits g t c =
    let is : c.from_residual-in_err-walk_down_first.result ≡ Err c.in_err-walk_down_first.field-0.0 = search rules in
    c.loop-count.invariant.left c.from_residual-in_err-walk_down_first.result c.walk_down_first.new.walker
    (through g.H.Target.Node.children g.W.Walker.goes_down g.W.Walker.goes_up g.H.Target.Node.height c.requires.no_up g.met.H.Target.Node.child_is_lower c.loop-count.walker (g.H.NodeRef.target c.loop-count.low) c.go_down.result c.go_down.new.self c.from_residual-in_err-walk_down_first.result c.walk_down_first.new.walker c.go_down.ensures.step (ok-is c.go_down.result _ _ c.in_ok-go_down.was c.in-Continue.is) (c.in_err-walk_down_first.ensures.visits c.from_residual-in_err-walk_down_first.result c.walk_down_first.new.walker (is, refl)))

pub walk_down-returns-in-Stop-2-clause-visits : goal.walk_down-returns-in-Stop-2-clause-visits
walk_down-returns-in-Stop-2-clause-visits g t c =
    c.loop-count.invariant.left (Ok Stop) c.walk_down_first.new.walker
    (through g.H.Target.Node.children g.W.Walker.goes_down g.W.Walker.goes_up g.H.Target.Node.height c.requires.no_up g.met.H.Target.Node.child_is_lower c.loop-count.walker (g.H.NodeRef.target c.loop-count.low) c.go_down.result c.go_down.new.self (Ok Stop) c.walk_down_first.new.walker c.go_down.ensures.step (ok-is c.go_down.result _ _ c.in_ok-go_down.was c.in-Continue.is)
    (subst (λ o. TakesFirst (Visits g.H.Target.Node.children g.W.Walker.goes_down g.W.Walker.goes_up g.H.Target.Node.height) (g.H.Target.Node.children (g.H.NodeRef.target c.loop-count.low)) (c.count-count.result - 1) c.go_down.new.self (Ok o) c.walk_down_first.new.walker) c.in-Stop-2.is c.in_ok-walk_down_first.ensures.visits (Ok Stop) c.walk_down_first.new.walker (refl, refl)))

pub walk_down-loop-count-smaller : goal.walk_down-loop-count-smaller
walk_down-loop-count-smaller g t c =
    let many : (c.count-count.result - 1) + 1 ≡ length (g.H.Target.Node.children (g.H.NodeRef.target c.loop-count.low)) = search (rules, arith) in
    let low : g.H.Target.Node.height (g.H.NodeRef.target c.child-low.result) < g.H.Target.Node.height (g.H.NodeRef.target c.loop-count.low) = g.met.H.Target.Node.child_is_lower (g.H.NodeRef.target c.loop-count.low) (g.H.NodeRef.target c.child-low.result) (contains-at (g.H.Target.Node.children (g.H.NodeRef.target c.loop-count.low)) (c.count-count.result - 1) (g.H.NodeRef.target c.child-low.result) c.child-low.ensures) in
    low

pub walk_down-loop-count-preserved : goal.walk_down-loop-count-preserved
walk_down-loop-count-preserved g t c =
    let many : (c.count-count.result - 1) + 1 ≡ length (g.H.Target.Node.children (g.H.NodeRef.target c.loop-count.low)) = search (rules, arith) in
    let low : g.H.Target.Node.height (g.H.NodeRef.target c.child-low.result) < g.H.Target.Node.height (g.H.NodeRef.target c.loop-count.low) = g.met.H.Target.Node.child_is_lower (g.H.NodeRef.target c.loop-count.low) (g.H.NodeRef.target c.child-low.result) (contains-at (g.H.Target.Node.children (g.H.NodeRef.target c.loop-count.low)) (c.count-count.result - 1) (g.H.NodeRef.target c.child-low.result) c.child-low.ensures) in
    record {
      again = c.walk_down_first.ensures.again;
      lower = omega (arith, low, c.loop-count.invariant.lower);
      left = λ r u step.
          c.loop-count.invariant.left r u
          (through g.H.Target.Node.children g.W.Walker.goes_down g.W.Walker.goes_up g.H.Target.Node.height c.requires.no_up g.met.H.Target.Node.child_is_lower c.loop-count.walker (g.H.NodeRef.target c.loop-count.low) c.go_down.result c.go_down.new.self r u c.go_down.ensures.step (ok-is c.go_down.result _ _ c.in_ok-go_down.was c.in-Continue.is)
          (then-last (Visits g.H.Target.Node.children g.W.Walker.goes_down g.W.Walker.goes_up g.H.Target.Node.height) (g.H.Target.Node.children (g.H.NodeRef.target c.loop-count.low)) (c.count-count.result - 1) (g.H.NodeRef.target c.child-low.result) c.go_down.new.self c.in_ok-walk_down_first.field-0 c.walk_down_first.new.walker r u many c.child-low.ensures c.in_default.not-Stop c.in_ok-walk_down_first.ensures.visits step));
    }

pub walk_down_first-returns-in_err-order-clause-visits : goal.walk_down_first-returns-in_err-order-clause-visits
walk_down_first-returns-in_err-order-clause-visits g t c =
    let is : c.from_residual.result ≡ Err c.in_err-order.field-0.0 = search rules in
    λ r u ends.
    let both : (r ≡ Err c.in_err-order.field-0.0) × (u ≡ c.walk_down.new.walker) = at-error (Visits g.H.Target.Node.children g.W.Walker.goes_down g.W.Walker.goes_up g.H.Target.Node.height) (λ order. InTurn (Visits g.H.Target.Node.children g.W.Walker.goes_down g.W.Walker.goes_up g.H.Target.Node.height) order c.walk_down.new.walker (drop c.args.count (g.H.Target.Node.children (g.H.NodeRef.target c.args.node))) r u) c.from_residual.result c.walk_down.new.walker r u c.in_err-order.field-0.0 is ends in
    at-end (Visits g.H.Target.Node.children g.W.Walker.goes_down g.W.Walker.goes_up g.H.Target.Node.height) (g.H.Target.Node.children (g.H.NodeRef.target c.args.node)) c.args.walker.now (Err c.in_err-order.field-0.0) r c.walk_down.new.walker u both.0 both.1
    (c.loop-i.invariant.left (Err c.in_err-order.field-0.0) c.walk_down.new.walker (InTurn-error (Visits g.H.Target.Node.children g.W.Walker.goes_down g.W.Walker.goes_up g.H.Target.Node.height) _ (g.H.NodeRef.target c.child.result) _ (drop-next (g.H.Target.Node.children (g.H.NodeRef.target c.args.node)) c.loop-i.i (g.H.NodeRef.target c.child.result) c.child.ensures) c.loop-i.last c.loop-i.walker c.walk_down.result c.walk_down.new.walker c.walk_down.ensures.visits c.in_err-order.field-0.0 (Err c.in_err-order.field-0.0) c.in_err-order.was refl))

pub walk_down_first-returns-in-Stop-clause-visits : goal.walk_down_first-returns-in-Stop-clause-visits
walk_down_first-returns-in-Stop-clause-visits g t c = λ r u ends.
    at-end (Visits g.H.Target.Node.children g.W.Walker.goes_down g.W.Walker.goes_up g.H.Target.Node.height) (g.H.Target.Node.children (g.H.NodeRef.target c.args.node)) c.args.walker.now (Ok Stop) r c.walk_down.new.walker u ends.0 ends.1
    (c.loop-i.invariant.left (Ok Stop) c.walk_down.new.walker (InTurn-stop (Visits g.H.Target.Node.children g.W.Walker.goes_down g.W.Walker.goes_up g.H.Target.Node.height) _ (g.H.NodeRef.target c.child.result) _ (drop-next (g.H.Target.Node.children (g.H.NodeRef.target c.args.node)) c.loop-i.i (g.H.NodeRef.target c.child.result) c.child.ensures) c.loop-i.last c.loop-i.walker c.walk_down.result c.walk_down.new.walker c.walk_down.ensures.visits (ok-is _ _ _ c.in_ok-order.was c.in-Stop.is)))

pub walk_down_first-loop-i-preserved : goal.walk_down_first-loop-i-preserved
walk_down_first-loop-i-preserved g t c = record {
  again = c.walk_down.ensures.again;
  on = c.in_default.not-Stop;
  left = λ r u rest. c.loop-i.invariant.left r u (InTurn-next (Visits g.H.Target.Node.children g.W.Walker.goes_down g.W.Walker.goes_up g.H.Target.Node.height) _ (g.H.NodeRef.target c.child.result) _ (drop-next (g.H.Target.Node.children (g.H.NodeRef.target c.args.node)) c.loop-i.i (g.H.NodeRef.target c.child.result) c.child.ensures) c.loop-i.last c.loop-i.walker c.walk_down.result c.walk_down.new.walker c.walk_down.ensures.visits c.in_ok-order.order c.in_ok-order.was c.in_default.not-Stop r u rest);
}
